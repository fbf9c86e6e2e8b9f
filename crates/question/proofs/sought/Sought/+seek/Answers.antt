-- `Sought::seek` meets its contract, in a cycle with itself: each side of a split has fewer free values.
use Rattle.std.proofs.Common.{sym, ap, ◌∙◌, true≢false, ◌-◌}
use native.Mathlib.Nat.{le_of_suc-le-suc}
use native.Mathlib.Omega.{arith}
use Rattle.setups.specs.Clauses.{wish}
use Rattle.setups.specs.Searching.{free_count}
use Rattle.setups.proofs.Settling.{wish_small}
use Rattle.question.proofs.SeekLaws.{seeks_done, seeks_full, seeks_first, seeks_second, split_less}
use Rattle.question.proofs.sought.Sought.+seek.Goals as goal

pub returns-then-done : goal.returns-then-done
returns-then-done t c = seeks_done c.in_ok-last.ensures (c.done.ensures.0 c.if-done.true)

pub returns-in_err-literal : goal.returns-in_err-literal
returns-in_err-literal t c =
    rw c.from_residual-in_err-literal.ensures
    (seeks_full c.in_ok-last.ensures c.in_err-literal.ensures (λ met. true≢false (sym (c.done.ensures.1 met) ∙ c.if-done.false)))

pub seek-requires : goal.seek-requires
seek-requires t c =
    let b = c.in_ok-literal.literal in
    let less = split_less c.in_ok-last.ensures b c.in_ok-literal.ensures (wish b) (le_of_suc-le-suc (wish_small b)) in
    (omega (arith, less, ap free_count c.with_true.ensures, c.decreases), tt)

pub returns-in-Some : goal.returns-in-Some
returns-in-Some t c = seeks_first c.in_ok-last.ensures c.in_ok-literal.literal c.in-Some.reached c.in-Some.ensures

pub seek-requires-2 : goal.seek-requires-2
seek-requires-2 t c =
    let b = c.in_ok-literal.literal in
    let less = split_less c.in_ok-last.ensures b c.in_ok-literal.ensures (1 - wish b) (omega arith) in
    (omega (arith, less, ap free_count c.with_false.ensures, c.decreases), tt)

pub returns : goal.returns
returns t c =
    seeks_second c.in_ok-last.ensures c.in_ok-literal.literal (rw (c.with_true.ensures, c.in_default.is) at c.seek.ensures) _
    (rw c.with_false.ensures at c.seek-2.ensures)
