-- `found::fits` meets its contract: `all` looks at each found set.
use Rattle.std.proofs.lemmas.Iterator.{cases_from_all, YieldsList-from_slice}
use Rattle.sets.specs.Sets.{Share}
use Rattle.found.proofs.FoundLaws.{fits_all}
use Rattle.found.proofs.fits.Goals as goal
use borrow.Author.Tests.{tests}
use borrow.Author.Rules.{rules}

pub returns-then-within : goal.returns-then-within
returns-then-within c =
    let sure = c.args.sure in
    fits_all _ sure _ (c.within.ensures.0 c.if-within.true) _
    (cases_from_all _ _ _ (λ W. Share W sure) (λ W. ¬ Share W sure) c.all.ensures.ran (YieldsList-from_slice c.args.found.now cc)
    (λ x q k. search (rules, tests)) (λ x q k. search (rules, tests)))
