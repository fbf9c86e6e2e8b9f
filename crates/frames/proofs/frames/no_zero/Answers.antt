-- `frames::frames::no_zero` meets its contract: what is asked of each of the pairs.
use mathlib.Core.Path.{◌∙◌}
use Rattle.std.proofs.Common.{rules}
use borrow.Author.Tests.{tests}
use Rattle.std.proofs.lemmas.Iterator.Search.{all_from_yields_List}
use Rattle.frames.proofs.Lines.{yields_pairs, not_zero, none_zero}
use Rattle.frames.proofs.frames.no_zero.Goals as goal

pub returns : goal.returns
returns c =
    let t = c.args.digits.now in
    all_from_yields_List not_zero _ _ _ c.all.ensures.ran (yields_pairs t c.chunks_exact.ensures.rest c.chunks_exact.ensures.size) (λ x b q k. search (rules, tests)) ∙ none_zero t
