-- `put_text` meets its contract.
use mathlib.Core.Path.{sym}
use lib.Seq.{length-take-le}
use Rattle.resolve.proofs.Filled.{read_places}
use Rattle.resolve.proofs.Answering.{read_refused, read_read, puts_along, passes_on}
use Rattle.resolve.proofs.put_text.Goals as goal

pub returns-in_err-count : goal.returns-in_err-count
returns-in_err-count c =
    passes_on _ _ c.from_residual.result _ c.from_residual.ensures.1 (read_refused _ c.read.result _ _ c.read.ensures _ c.in_err-count.was)

pub slice_bounds-hard-end : goal.slice_bounds-hard-end
slice_bounds-hard-end c = (read_places _ _ _ c.read.result _ _ c.read.ensures _ c.in_ok-count.was).0

pub slice_bounds-put_resolved-end : goal.slice_bounds-put_resolved-end
slice_bounds-put_resolved-end c = sym (length-take-le _ _ (read_places _ _ _ c.read.result _ _ c.read.ensures _ c.in_ok-count.was).0)

pub slice_bounds-soft-end : goal.slice_bounds-soft-end
slice_bounds-soft-end c = (read_places _ _ _ c.read.result _ _ c.read.ensures _ c.in_ok-count.was).1

pub slice_bounds-put_resolved-end-2 : goal.slice_bounds-put_resolved-end-2
slice_bounds-put_resolved-end-2 c = sym (length-take-le _ _ (read_places _ _ _ c.read.result _ _ c.read.ensures _ c.in_ok-count.was).1)

pub returns : goal.returns
returns c = puts_along _ _ (read_read _ c.read.result _ _ c.read.ensures _ c.in_ok-count.was) c.put_resolved.result _ _ c.put_resolved.ensures
