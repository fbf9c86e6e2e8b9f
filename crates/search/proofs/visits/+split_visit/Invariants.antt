-- `visits::visit` and `visits::split`: the free values fall around the cycle. A settled visit has no more of them than it began with, and
-- each side of a split has one fewer.
use Prim.Native.Nat.{◌+◌, ◌*◌}
use Rattle.setups.specs.Searching as searching
use Rattle.search.proofs.visits.+split_visit.Given as goal

abbrev pub decreases-split : goal.decreases-split
decreases-split l = 2 * searching.free_count l.values

abbrev pub decreases-visit : goal.decreases-visit
decreases-visit l = 2 * searching.free_count l.values + 1
