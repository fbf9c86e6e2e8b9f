-- `visits::visit` and `visits::split` meet their contracts: the place of the variable that is split on, what the sides tell there, and that
-- a split has no more free values than its visit.
use mathlib.Core.Path.{◌≡◌}
use mathlib.Core.List.{List}
use Prim.Native.Nat.{ℕ, ◌-◌, ◌≤◌, ◌<◌}
use native.Mathlib.Omega.{arith}
use borrow.Author.Rules.{rules}
use lib.ListN.{length, get_or}
use Rattle.std.proofs.lemmas.List.{set-set}
use Rattle.std.proofs.lemmas.Result.{err_from_is_err_and}
use Rattle.setups.specs.Limits.{variables_most}
use Rattle.numbers.specs.Code.Places.{value_place}
use Rattle.setups.proofs.Settling.{free_inside}
use Rattle.search.proofs.Telling.{first_tells, second_tells}
use Rattle.search.proofs.VisitLaws.{sides_fewer, visit_fewer}
use Rattle.search.proofs.visits.+split_visit.Goals as goal

-- the place of the variable that is split on
place_of : (values : List ℕ) (v place : ℕ) → length values ≡ variables_most → place ≡ value_place v → (0 < v) × (2 ≤ get_or values (v - 1) 0)
    → place ≡ v - 1
place_of values v place n is free =
    let inside = free_inside values (v - 1) free.1 in
    omega (arith, free.0)

pub split-visit-requires : goal.split-visit-requires
split-visit-requires t c =
    let place = place_of c.args.values _ c.value_place-at.result (search rules) c.value_place-at.ensures c.requires in
    let fewer = sides_fewer c.args.values c.value_place-at.result (rw place c.requires.1) in
    (omega (arith, fewer.0, fewer.1), tt)

pub split-visit-requires-in-None : goal.split-visit-requires-in-None
split-visit-requires-in-None t c =
    let place = place_of c.args.values _ c.value_place-at.result (search rules) c.value_place-at.ensures c.requires in
    let fewer = sides_fewer c.args.values c.value_place-at.result (rw place c.requires.1) in
    simp set-set (omega (arith, fewer.0, fewer.1), tt)

pub split-returns-in_err-model : goal.split-returns-in_err-model
split-returns-in_err-model t c =
    let place = place_of c.args.values _ c.value_place-at.result (search rules) c.value_place-at.ensures c.requires in
    let given = err_from_is_err_and c.from_residual.result c.from_residual.ensures.1 in
    rw (← place, given.1, given.2) (first_tells _ _ _ _ _ c.in_err-model.ensures (λ k e. cc))

pub split-returns-in-None : goal.split-returns-in-None
split-returns-in-None t c =
    let place = place_of c.args.values _ c.value_place-at.result (search rules) c.value_place-at.ensures c.requires in
    let low = rw c.in-None.is at c.in_ok-model.ensures in
    rw (← place) (second_tells _ _ _ _ _ _ low (simp set-set at c.visit-in-None.ensures))

pub split-returns-in_default : goal.split-returns-in_default
split-returns-in_default t c =
    let place = place_of c.args.values _ c.value_place-at.result (search rules) c.value_place-at.ensures c.requires in
    rw (← place) (first_tells _ _ _ _ _ c.in_ok-model.ensures (λ k e. c.in_default.not-None k cc))

pub visit-split-requires : goal.visit-split-requires
visit-split-requires t c =
    let fewer = visit_fewer c.args.budget c.args.used _ _ c.if-budget-used.false c.in-Some.end c.in-Some.ensures in
    let on = c.in-Some-lowest_free.ensures in
    let e : c.in-Some-lowest_free.variable.0 - 1 ≡ on.0 = omega (arith, on.1) in
    (omega arith, (omega (arith, on.1), rw e on.2.free))
