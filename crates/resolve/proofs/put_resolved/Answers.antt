-- `put_resolved` meets its contract.
use mathlib.Core.List.{[], ◌∷◌}
use Rattle.setups.specs.Refusals.{unmet}
use Rattle.lines.specs.Lines.{answer_lines}
use Rattle.resolve.proofs.Answering.{list_refused, list_unmet, list_listed, puts_along, passes_on}
use Rattle.resolve.proofs.put_resolved.Goals as goal

pub returns-in_err-list : goal.returns-in_err-list
returns-in_err-list c =
    passes_on _ _ c.from_residual.result _ c.from_residual.ensures.1 (list_refused _ _ _ c.list.result _ _ c.list.ensures _ c.in_err-list.was)

pub returns-in-Unmet : goal.returns-in-Unmet
returns-in-Unmet c =
    (answer_lines unmet [] (0 ∷ []), list_unmet _ _ _ c.list.result _ _ c.list.ensures (rw c.in-Unmet.is at c.in_ok-list.was), c.put_unmet.ensures)

pub returns-in-Listed : goal.returns-in-Listed
returns-in-Listed c =
    puts_along _ _ (list_listed _ _ _ c.list.result _ _ c.list.ensures _ (rw c.in-Listed.is at c.in_ok-list.was) _ c.settings_count.ensures) c.put_turned.result _ _ c.put_turned.ensures
