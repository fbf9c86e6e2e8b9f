-- `lent::fine` meets its contract: what is asked of the sets that are left is what is asked of the whole list.
use mathlib.Core.Path.{◌≡◌}
use mathlib.Core.Logic.{◌↔◌}
use mathlib.Core.List.{List, ◌∷◌}
use Prim.Native.Nat.{ℕ, suc, ◌<◌, ◌-◌, ◌^◌, min}
use Rattle.sets.specs.Width.{settings_most}
use Rattle.sets.specs.Sets.{Within}
use Rattle.sets.specs.Turns.{Fine}
use Rattle.numbers.proofs.Deciding.{refuted}
use Rattle.lent.specs.Leads.{Leads}
use Rattle.lent.proofs.Fronts.{passed, fine_front, fine_end, within_count, fine_true, fine_false}
use Rattle.lent.proofs.fine.Goals as goal

-- no setting of a set is above the count
counted : (n all S : ℕ) → S < 2 ^ settings_most → all ≡ 2 ^ min n settings_most - 1 → Within S all ↔ (S < 2 ^ n)
counted n all S s e = rw e (within_count settings_most n S s)

-- what is asked of what is left, where a set stands before the others
at : (n S : ℕ) (rest others : List ℕ) → rest ≡ S ∷ others → Fine n rest ↔ ((S < 2 ^ n) × Leads S others × Fine n others)
at n S rest others e = rw e (fine_front n S others)

pub returns-then-not-within : goal.returns-then-not-within
returns-then-not-within c =
    let a = c.args in
    let S = c.in-Some.field-0-0.now in
    let e = c.in-Some.ensures.cases.0 in
    let front = at a.count S c.loop-set.rest.now c.in-Some.others.now e in
    let most = counted a.count c.full-all.result S (rw e at (c.loop-set.invariant.0 0)) c.full-all.ensures in
    fine_false a.count a.list.now (λ f. refuted c.within.ensures c.if-not-within.true (most.1 (front.0 (c.loop-set.invariant.1.1 f)).0))

pub returns-then-not-leads : goal.returns-then-not-leads
returns-then-not-leads c =
    let a = c.args in
    let front = at a.count c.in-Some.field-0-0.now c.loop-set.rest.now c.in-Some.others.now c.in-Some.ensures.cases.0 in
    fine_false a.count a.list.now (λ f. refuted c.leads.ensures c.if-not-leads.true (front.0 (c.loop-set.invariant.1.1 f)).1)

pub loop-set-preserved : goal.loop-set-preserved
loop-set-preserved c =
    let a = c.args in
    let S = c.in-Some.field-0-0.now in
    let e = c.in-Some.ensures.cases.0 in
    let front = at a.count S c.loop-set.rest.now c.in-Some.others.now e in
    let most = counted a.count c.full-all.result S (rw e at (c.loop-set.invariant.0 0)) c.full-all.ensures in
    (λ k. rw e at (c.loop-set.invariant.0 (suc k)), passed front (most.0 (c.within.ensures.0 c.if-not-within.false)) (c.leads.ensures.0 c.if-not-leads.false) c.loop-set.invariant.1)

pub returns : goal.returns
returns c =
    let a = c.args in
    fine_true a.count a.list.now (c.loop-set.invariant.1.0 (fine_end a.count c.loop-set.rest.now c.in_default.ensures.cases))
