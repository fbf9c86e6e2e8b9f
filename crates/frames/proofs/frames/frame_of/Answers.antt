-- `frames::frames::frame_of` meets its contract: the first byte's kind decides it, with the bytes after it.
use mathlib.Core.Path.{◌∙◌}
use Rattle.frames.proofs.Lines.{no_kind, a_kind}
use Rattle.frames.proofs.frames.frame_of.Goals as goal

pub returns-in_err-kind : goal.returns-in_err-kind
returns-in_err-kind c =
    c.from_residual-in_err-kind.ensures ∙ no_kind _ _ _ _ _ c.in_ok-first.ensures.cases c.byte_at.ensures c.try_from.ensures c.in_err-kind.ensures.value

pub returns : goal.returns
returns c =
    c.frame_of_kind.ensures ∙ a_kind _ _ _ _ _ c.in_ok-first.ensures.cases c.byte_at.ensures c.try_from.ensures _ c.in_ok-kind.ensures.value
