-- `turn::Branch::search` and `turn::Branch::split`, which call each other: the settings left fall around the cycle. Twice their number,
-- and one more at a branch.
use Rattle.std.proofs.Common.{◌+◌, ◌*◌}
use Rattle.turn.proofs.Branch.+branch_split.Given as goal

abbrev pub decreases-search : goal.decreases-search
decreases-search l = 2 * l.self.left + 1

abbrev pub decreases-split : goal.decreases-split
decreases-split l = 2 * l.self.left
