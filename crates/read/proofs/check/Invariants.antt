-- `read::check`: the lines from the reader's place on decide what the text says, and the clauses before it are counted.
use Rattle.read.proofs.Passing.{Underway}
use Rattle.read.proofs.check.Given as goal

abbrev pub invariant-loop-found : goal.invariant-loop-found
invariant-loop-found l = Underway l.text l.found-iterator l.setup.count l.setup.hard_filled l.setup.soft_filled l.line
