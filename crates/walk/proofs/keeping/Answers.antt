-- `keeping` meets its contract: where the witness has the setting the node below stands by it, else the question decides.
use native.Mathlib.Omega.{arith}
use Rattle.walk.proofs.NodeSteps.{keep_reached, keep_witnessed}
use Rattle.walk.proofs.keeping.Goals as goal

pub returns-then-has : goal.returns-then-has
returns-then-has c =
    let kept = c.keep-kept in (
      keep_witnessed c.args.taken.now.taken.settings c.requires.witnessed kept.ensures (c.has.ensures.0 c.if-has.true),
      omega (arith, kept.ensures.left),
      kept.ensures.given,
    )

pub enter-requires : goal.enter-requires
enter-requires c =
    let at = c.requires.witnessed.reached in
    keep_reached (record { most = c.args.taken.now.taken.settings; decided = at.decided }) c.keep-kept.ensures at.before
