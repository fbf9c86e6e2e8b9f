-- `found::keep_last` meets its contract: where the set is a single setting, that one has to pass.
use borrow.Author.Rules.{rules}
use Rattle.found.proofs.FoundLaws.{keeps_last}
use Rattle.found.proofs.keep_last.Goals as goal

pub returns-then-at_most_one : goal.returns-then-at_most_one
returns-then-at_most_one c =
    search (rules, keeps_last c.args.kept c.args.left (c.at_most_one.ensures.0 c.if-at_most_one.true))
