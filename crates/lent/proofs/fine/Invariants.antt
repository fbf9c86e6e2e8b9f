-- `lent::fine` meets its contract: what is asked of the sets that are left is what is asked of the whole list. Each of
-- them is a number of a set's width.
use mathlib.Core.Logic.{◌↔◌}
use Prim.Native.Nat.{ℕ, ◌<◌, ◌^◌}
use lib.ListN.{length, get_or}
use Rattle.sets.specs.Width.{settings_most}
use Rattle.sets.specs.Turns.{Fine}
use Rattle.lent.proofs.fine.Given as goal

abbrev pub invariant-loop-set : goal.invariant-loop-set
invariant-loop-set l = ((k : ℕ) → get_or l.rest k 0 < 2 ^ settings_most) × (Fine l.count l.rest ↔ Fine l.count l.list)

abbrev pub decreases-loop-set : goal.decreases-loop-set
decreases-loop-set l = length l.rest
