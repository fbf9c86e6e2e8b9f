-- `standing::met` meets its contract: while each clause so far has a true literal, the clauses from here on decide.
use Rattle.forcing.proofs.StandingLaws.{Meeting}
use Rattle.forcing.proofs.standing.met.Given as goal

abbrev pub invariant-loop-byte : goal.invariant-loop-byte
invariant-loop-byte l = Meeting l.values l.hard l.sure l.byte-index
