-- `Progress::force` meets its contract: the clauses that are passed have been put to use, and those from here on are still due.
use mathlib.Core.Bool.{true}
use Rattle.forcing.proofs.ForcingLaws.{Forcing}
use Rattle.forcing.proofs.forcing.Progress.force.Given as goal

abbrev pub invariant-loop-byte : goal.invariant-loop-byte
invariant-loop-byte g l =
    Forcing (λ n. goal.F-post g l.fn.due (record { 0 = n }) true) l.clauses l.fn.self l.forced l.seen l.selector.0 l.byte-index
