-- `Sought::one_round` meets its contract: no rule loses an answer.
use Rattle.std.proofs.Common.{sym, ◌∙◌, ap, not}
use borrow.Author.Tests.{eq-eqb}
use mathlib.Core.Bool.{false≢true}
use mathlib.Core.Logic.{inl, inr}
use native.Mathlib.Omega.{arith}
use Rattle.question.proofs.Rounds.{advances_stuck, advances_dead, advances_round}
use Rattle.question.proofs.sought.Sought.one_round.Goals as goal
use Rattle.question.proofs.sought.Sought.one_round.Goals.{then-forced, else-forced}

pub returns-in_err-forced : goal.returns-in_err-forced
returns-in_err-forced c = rw c.from_residual.ensures (advances_stuck c.args.self.now c.args.values (omega (arith, c.ranges.kept)) c.in_err-forced.ensures)

pub returns-in_err-wider : goal.returns-in_err-wider
returns-in_err-wider c =
    rw c.from_residual-in_err-wider.ensures
    (advances_dead c.args.self.now c.args.values (omega (arith, c.ranges.kept)) c.in_ok-forced.ensures c.stand-standing.ensures c.in_err-wider.ensures)

pub returns : goal.returns
returns c =
    advances_round c.args.self.now c.args.values (omega (arith, c.ranges.kept)) c.in_ok-forced.ensures c.stand-standing.ensures c.in_ok-wider.ensures c.if-forced.result
    (elim c.if-forced.branch [
      | then-forced w ↦ λ t. inl w.if-forced.true
      | else-forced w ↦ λ t. inr (λ e. false≢true (sym (w.result-is ∙ ap not (eq-eqb _ _ e)) ∙ t))
    ])
