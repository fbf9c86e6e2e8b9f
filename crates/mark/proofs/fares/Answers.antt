-- `mark::fares` meets its contract: the two tests come in the order of the definition.
use mathlib.Core.Path.{◌≡◌, sym}
use mathlib.Core.Bool.{not}
use borrow.Author.Tests.{tests}
use Rattle.std.proofs.Common.{rules, ◌-◌}
use Rattle.std.proofs.lemmas.Iterator.{YieldsList-from_slice, cases_from_all, cases_from_any}
use Rattle.sets.specs.Sets.{Share, only}
use Rattle.sets.specs.Tests.{has, all}
use Rattle.setups.specs.Limits.{settings_most}
use Rattle.mark.proofs.Tests.{all_answer, none_answer}
use Rattle.mark.proofs.fares.Goals as goal
use Rattle.mark.proofs.fares.Goals.{After-any, After-all}

-- what the two tests answer
none : (c : After-any) → not c.any.result ≡ all (λ S. not (has S (c.args.setting.0 - 1))) c.args.list.now
none c =
    let number = c.args.setting.0 in
    none_answer settings_most number c.requires.0 c.requires.1 c.args.list.now c.any.result
    (cases_from_any _ _ _ (λ S. Share S (only settings_most number)) (λ S. ¬ Share S (only settings_most number)) c.any.ensures.ran (YieldsList-from_slice c.args.list.now cc)
    (λ x q k. search (rules, tests)) (λ x q k. search (rules, tests)))

whole : (c : After-all) → c.all.result ≡ all (λ S. has S (c.args.setting.0 - 1)) c.args.list.now
whole c =
    let number = c.args.setting.0 in
    all_answer settings_most number c.requires.0 c.requires.1 c.args.list.now c.all.result
    (cases_from_all _ _ _ (λ S. Share S (only settings_most number)) (λ S. ¬ Share S (only settings_most number)) c.all.ensures.ran (YieldsList-from_slice c.args.list.now cc)
    (λ x q k. search (rules, tests)) (λ x q k. search (rules, tests)))

pub returns-then-not-any : goal.returns-then-not-any
returns-then-not-any c = rw (sym (none (goal.at.returns-then-not-any c).After-any), c.if-not-any.true)

pub returns-then-all : goal.returns-then-all
returns-then-all c =
    rw (sym (none (goal.at.returns-then-all c).After-any), c.if-not-any.false, sym (whole (goal.at.returns-then-all c).After-all), c.if-all.true)

pub returns : goal.returns
returns c =
    rw (sym (none (goal.at.returns c).After-any), c.if-not-any.false, sym (whole (goal.at.returns c).After-all), c.if-all.false)
