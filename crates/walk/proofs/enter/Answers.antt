-- `enter` meets its contract: where the question has no answer the branch holds no way out.
use Rattle.walk.proofs.Replies.{no_way_out}
use Rattle.walk.proofs.enter.Goals as goal

pub returns-in_err-witness : goal.returns-in_err-witness
returns-in_err-witness c = rw c.from_residual.ensures (no_way_out c.requires.decided c.requires.before c.in_err-witness.ensures)
