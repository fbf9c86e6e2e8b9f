-- `lent::leads` meets its contract: what `all` asks of each of the others is what `Leads` does.
use Rattle.std.proofs.Common.{◌<◌, rules}
use borrow.Author.Tests.{tests}
use Rattle.std.proofs.lemmas.Iterator.{YieldsList-from_slice, cases_from_all}
use Rattle.sets.specs.Sets.{Within}
use Rattle.lent.proofs.Fronts.{answers_all}
use Rattle.lent.proofs.leads.Goals as goal

pub returns : goal.returns
returns c =
    let S = c.args.set in
    answers_all (λ R. (S < R) × ¬ Within S R) c.args.others.now c.all.result
    (cases_from_all _ _ _ (λ R. (S < R) × ¬ Within S R) (λ R. ¬ ((S < R) × ¬ Within S R)) c.all.ensures.ran (YieldsList-from_slice c.args.others.now cc)
    (λ x q k. search (rules, tests)) (λ x q k. search (rules, tests)))
