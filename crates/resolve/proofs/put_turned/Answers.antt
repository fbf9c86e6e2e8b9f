-- `put_turned` meets its contract.
use native.Mathlib.Omega.{arith}
use lib.ListN.{take, length-take}
use Rattle.setups.specs.Refusals.{finished}
use Rattle.lines.proofs.Stored.{answer_length}
use Rattle.resolve.proofs.Answering.{turn_refused, passes_on}
use Rattle.resolve.proofs.put_turned.Goals as goal

pub returns-in_err-filled : goal.returns-in_err-filled
returns-in_err-filled c =
    passes_on _ _ c.from_residual.result _ c.from_residual.ensures.1 (turn_refused _ _ _ c.turn.result _ _ c.turn.ensures _ c.in_err-filled.was)

pub put_answer-requires : goal.put_answer-requires
put_answer-requires c =
    omega (arith, answer_length finished c.args.ways.now (take c.in_ok-filled.filled c.turn.new.list), length-take c.in_ok-filled.filled c.turn.new.list)
