-- `found::narrow` meets its contract: the found sets that are passed have their say in what is kept.
use mathlib.Core.Path.{sym, ◌∙◌}
use mathlib.Core.Bool.{true≢false}
use Rattle.found.proofs.FoundLaws.{narrows_kept, narrowing_more, narrows_none, narrows_all}
use Rattle.found.proofs.narrow.Goals as goal

pub returns-then-not-within : goal.returns-then-not-within
returns-then-not-within c = narrows_kept _ _ _ (λ w. true≢false (sym (c.within.ensures.1 w) ∙ c.if-not-within.true))

pub returns-then-left-eq-EMPTY : goal.returns-then-left-eq-EMPTY
returns-then-left-eq-EMPTY c =
    narrows_none _ _ _ _ _ c.loop-set.invariant c.loop-set-test.true c.if-left-eq-EMPTY.true

pub loop-set-preserved : goal.loop-set-preserved
loop-set-preserved c =
    narrowing_more _ _ _ _ _ c.loop-set.invariant c.loop-set-test.true _ c.keep_last-wider.ensures

pub returns : goal.returns
returns c = narrows_all _ _ _ _ _ c.loop-set.invariant
