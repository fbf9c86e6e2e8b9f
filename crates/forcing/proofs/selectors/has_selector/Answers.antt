-- `selectors::has_selector` meets its contract: a set has no setting beyond its width, and below it the selector's setting is asked for.
use borrow.Author.Tests.{ltb-true}
use native.Mathlib.Omega.{arith}
use Rattle.forcing.proofs.SelectorLaws.{beyond, has_selector}
use Rattle.forcing.proofs.selectors.has_selector.Goals as goal

pub returns-then-selector-lt-SETTINGS_MOST : goal.returns-then-selector-lt-SETTINGS_MOST
returns-then-selector-lt-SETTINGS_MOST c =
    let a = c.args in
    has_selector _ a.set a.selector.0 _ c.if-selector-lt-SETTINGS_MOST.true c.setting_of.ensures c.has.ensures

pub returns-else-selector-lt-SETTINGS_MOST : goal.returns-else-selector-lt-SETTINGS_MOST
returns-else-selector-lt-SETTINGS_MOST c =
    let a = c.args in
    let out = c.if-selector-lt-SETTINGS_MOST.false in
    ((λ e. absurd (let b : ⊥ = omega (arith, ltb-true a.selector.0 32 e) in b)), λ h. absurd (beyond a.set a.selector.0 (omega (arith, c.ranges.set)) out h))
