-- `members::choose` meets its contract: the lowest setting left is left.
use native.Mathlib.Omega.{arith}
use mir.Syntax.{w32}
use Rattle.members.proofs.Lowest.{lowest_shared}
use Rattle.members.proofs.choose.Goals as goal

pub returns : goal.returns
returns c = lowest_shared w32 c.args.left c.requires (omega arith)
