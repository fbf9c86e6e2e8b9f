-- `Progress::deny` meets its contract: no answer makes the literal true.
use Rattle.forcing.proofs.RuleLaws.{denied}
use Rattle.forcing.proofs.forcing.Progress.deny.Goals as goal

pub returns : goal.returns
returns c = let a = c.args in rw c.with_false.ensures (denied a.self a.literal)
