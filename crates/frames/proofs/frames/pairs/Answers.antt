-- `frames::frames::pairs` meets its contract: the first pairs that are of digits.
use mathlib.Core.Path.{◌∙◌}
use Rattle.std.proofs.Common.{rules}
use borrow.Author.Tests.{tests}
use Rattle.std.proofs.lemmas.Iterator.Consumers.{count_from_yields_List, YieldsList-at}
use Rattle.std.proofs.lemmas.Iterator.Search.{YieldsList-from_take_while}
use Rattle.std.proofs.lemmas.List.Folds.{length-prefix_len}
use Rattle.frames.proofs.Lines.{in_pairs, yields_pairs, is_pair, pairs_front}
use Rattle.frames.proofs.frames.pairs.Goals as goal

pub returns : goal.returns
returns c =
    let t = c.args.text.now in
    count_from_yields_List c.take_while.result _ c.count.ensures.ran
    (YieldsList-from_take_while _ is_pair (YieldsList-at c.take_while.ensures.source (yields_pairs t c.chunks_exact.ensures.rest c.chunks_exact.ensures.size)) c.take_while.ensures.closure c.take_while.ensures.done (λ x b q k. search (rules, tests)))
    ∙ length-prefix_len is_pair (in_pairs t) ∙ pairs_front t
