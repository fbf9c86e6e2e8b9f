-- `values::complete` meets its contract: of the values that are passed none is free.
use Rattle.forcing.proofs.ValueLaws.{Completing}
use Rattle.forcing.proofs.values.complete.Given as goal

abbrev pub invariant-loop-value : goal.invariant-loop-value
invariant-loop-value l = Completing l.fn.values l.value-items l.value-index
