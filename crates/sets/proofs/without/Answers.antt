-- `sets::without` meets its contract: `and` with `not` leaves what is not in the other.
use native.Mathlib.Omega.{arith}
use Rattle.sets.specs.Width.{settings_most}
use Rattle.sets.proofs.Digits.{and_not_leaves}
use Rattle.sets.proofs.without.Goals as goal

pub returns : goal.returns
returns c = rw (← c.only_this.ensures) (and_not_leaves settings_most c.args.set c.only_this.result (omega arith) (omega arith))
