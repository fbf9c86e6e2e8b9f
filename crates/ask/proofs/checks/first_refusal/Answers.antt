-- `checks::first_refusal` meets its contract; Long is judged of clauses that are ended.
use Rattle.std.proofs.Common.{◌≡◌, sym, ap, ◌∙◌, true, rules}
use Rattle.std.specs.Option.{is_some}
use borrow.Author.Tests.{not-false}
use Rattle.setups.specs.Refusals.{ended, long}
use Rattle.setups.proofs.CheckLaws.{tail_found, long_found}
use Rattle.ask.proofs.checks.first_refusal.Goals as goal

pub returns-then-is_some-2 : goal.returns-then-is_some-2
returns-then-is_some-2 c =
    let bytes = c.args.clauses.now in
    let end : ended bytes ≡ true = not-false (ended bytes) (sym (tail_found bytes) ∙ ap is_some (sym c.tail_place.ensures) ∙ sym c.if-is_some.ensures) in
    let above : long bytes ≡ true = sym (long_found bytes end) ∙ ap is_some (sym c.long_place.ensures) ∙ sym c.if-is_some-2.ensures in
    search rules
