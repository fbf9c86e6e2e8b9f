-- `mark::letters` meets its contract: the places so far hold their letters and the others what they held.
use mathlib.Core.Path.{◌≡◌}
use Rattle.sets.specs.Marks.{marks}
use Rattle.setups.specs.Written.{written}
use Rattle.mark.proofs.letters.Given as goal

abbrev pub invariant-loop-i : goal.invariant-loop-i
invariant-loop-i l = l.mark-items ≡ written (marks l.i l.list) l.initial.mark-items
