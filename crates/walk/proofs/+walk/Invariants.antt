-- The measure of `walk::walk`: the settings left.
use Rattle.walk.proofs.+walk.Given as goal

abbrev pub decreases-walk : goal.decreases-walk
decreases-walk l = l.live.node.left
