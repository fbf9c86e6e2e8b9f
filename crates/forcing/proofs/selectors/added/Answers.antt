-- `selectors::added` meets its contract: nothing is added beyond the width or where it does not count.
use Rattle.forcing.proofs.SelectorLaws.{adds_one}
use Rattle.forcing.proofs.selectors.added.Goals as goal

pub returns-then-selector-lt-SETTINGS_MOST : goal.returns-then-selector-lt-SETTINGS_MOST
returns-then-selector-lt-SETTINGS_MOST c =
    let a = c.args in
    adds_one a.set a.selector.0 _ _ a.counts c.if-counts.true c.if-selector-lt-SETTINGS_MOST.true c.setting_of.ensures c.with.ensures
