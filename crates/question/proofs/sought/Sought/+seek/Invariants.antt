-- The measure of `Sought::seek`: the free values.
use Rattle.setups.specs.Searching.{free_count}
use Rattle.question.proofs.sought.Sought.+seek.Given as goal

abbrev pub decreases-seek : goal.decreases-seek
decreases-seek l = free_count l.values
