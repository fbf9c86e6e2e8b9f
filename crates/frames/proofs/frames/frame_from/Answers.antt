-- `frames::frames::frame_from` meets its contract: each return's tests say how the line ends.
use mathlib.Core.Path.{sym, ◌∙◌}
use mathlib.Core.Logic.{⊎_elim}
use native.Mathlib.Omega.{arith}
use Rattle.frames.proofs.Lines.{pairs_fit, beyond, unended, too_long, here}
use Rattle.frames.proofs.frames.frame_from.Goals as goal

pub returns-in_err-rest : goal.returns-in_err-rest
returns-in_err-rest c = c.from_residual.ensures ∙ beyond c.args.text.now c.args.at (omega (arith, c.in_err-rest.ensures.lookup.0))

pub overflow_mul-bytes : goal.overflow_mul-bytes
overflow_mul-bytes c = omega (arith, c.well_formed, c.pairs-bytes.ensures, c.in_ok-rest.ensures.lookup.0.3, pairs_fit c.in_ok-rest.rest.now)

pub returns-then-not-ends_line : goal.returns-then-not-ends_line
returns-then-not-ends_line c =
    let rest = c.in_ok-rest.ensures.lookup.0.2 in
    ⊎_elim (λ e. unended c.args.text.now c.args.at _ _ rest c.pairs-bytes.ensures (sym c.ends_line.ensures ∙ e))
    (λ h. too_long c.args.text.now c.args.at _ _ rest c.pairs-bytes.ensures (omega arith)) c.then-not-ends_line.either

pub returns-in_err-frame : goal.returns-in_err-frame
returns-in_err-frame c =
    c.from_residual-in_err-frame.ensures
    ∙ here c.args.text.now c.args.at _ _ c.in_ok-rest.ensures.lookup.0.2 c.pairs-bytes.ensures (sym c.ends_line.ensures ∙ c.if-not-ends_line.false) (omega (arith, c.if-bytes-gt-FRAME_MOST.false)) _ c.in_err-frame.ensures

pub returns : goal.returns
returns c =
    here c.args.text.now c.args.at _ _ c.in_ok-rest.ensures.lookup.0.2 c.pairs-bytes.ensures (sym c.ends_line.ensures ∙ c.if-not-ends_line.false) (omega (arith, c.if-bytes-gt-FRAME_MOST.false)) _ c.in_ok-frame.ensures
