-- `found::narrow` meets its contract: the found sets that are passed have their say in what is kept.
use Rattle.found.proofs.FoundLaws.{Narrowing}
use Rattle.found.proofs.narrow.Given as goal

abbrev pub invariant-loop-set : goal.invariant-loop-set
invariant-loop-set l = Narrowing l.kept l.possible l.found l.wider l.set-index
