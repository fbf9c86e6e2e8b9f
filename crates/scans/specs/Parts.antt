-- The clauses that a search goes over, from the parts that it is given.
use Rattle.std.specs.Prelude.{List, ℕ}
use Rattle.scans.specs.declared.clauses.Clauses.{Clauses}
use Rattle.scans.specs.Scans.{clauses_of}

-- those of the first buffer, of the second, and each assumed literal
abbrev pub all_of : Clauses → List (List ℕ)
all_of parts = clauses_of parts.first.now parts.second.now parts.assumed.now
