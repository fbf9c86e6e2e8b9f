-- The table holds: the rows by the tests that compute and their laws, the answers by computation.
use mathlib.Core.Path.{◌≡◌, refl}
use mathlib.Core.Bool.{Bool, true, not, ◌&&◌}
use mathlib.Core.List.{List, [], ◌∷◌}
use Prim.Native.Nat.{ℕ, ◌^◌}
use lib.Dec.{T, T_not}
use lib.ListN.{length}
use Rattle.sets.specs.Lists.{Exactly}
use Rattle.numbers.proofs.Deciding.{and_left, and_right}
use Rattle.sets.proofs.Tests.{lists, lists_exactly}
use Rattle.sets.proofs.Turning.{turn_exists}
use Rattle.setups.specs.Setups.{Setup, setup, count, Together, WayOut, Clash}
use Rattle.setups.specs.Tests.{together, way_out, clash}
use Rattle.setups.specs.Ask.{ask_result}
use Rattle.setups.specs.List.{list_refusal, listed_result, ListGives}
use Rattle.setups.specs.GivenOut.{ListResult}
use Rattle.setups.proofs.Tests.{together_iff, way_out_iff, clash_iff}
use Rattle.setups.proofs.Duality.{unmet_ways_out, unmet_clashes}
use Rattle.table.specs.Rows.{Row, UnmetRow, P4-hard, P4-soft, P4-ways}
use Rattle.table.specs.Table.{Table}

-- the two lists are tested against every number below 2 ^ count
abbrev exact : Setup → List ℕ → List ℕ → Bool
exact g ways clashes = lists (2 ^ count g) (way_out g) ways && lists (2 ^ count g) (clash g) clashes

module _ (g : Setup) (ways clashes : List ℕ) (t : T (exact g ways clashes)) where
  ways_exactly : Exactly (WayOut g) ways
  ways_exactly =
      lists_exactly (2 ^ count g) (WayOut g) (way_out g) ways (λ S h. h.below) (λ S l. way_out_iff g S)
      (and_left (lists (2 ^ count g) (way_out g) ways) (lists (2 ^ count g) (clash g) clashes) t)

  clashes_exactly : Exactly (Clash g) clashes
  clashes_exactly =
      lists_exactly (2 ^ count g) (Clash g) (clash g) clashes (λ S h. h.below) (λ S l. clash_iff g S)
      (and_right (lists (2 ^ count g) (way_out g) ways) (lists (2 ^ count g) (clash g) clashes) t)

-- a row by its tests
pub row : {g : Setup} {ways clashes : List ℕ} → T (together g 0) → T (exact g ways clashes) → Row g ways clashes
row {g} {ways} {clashes} met t =
    record { met = (together_iff g 0).0 met; ways_out = ways_exactly g ways clashes t; clash = clashes_exactly g ways clashes t }

unmet_row : {g : Setup} → T (not (together g 0)) → UnmetRow g
unmet_row {g} none =
    let unmet : ¬ Together g 0 = λ h. T_not (together g 0) none ((together_iff g 0).1 h) in
    record { unmet = unmet; ways_out = unmet_ways_out g unmet; clash = unmet_clashes g unmet }

-- List over P4: what it says in a room follows from the row
P4-lists : (list scratch : List ℕ) (r : ListResult)
    → r ≡ listed_result (list_refusal 4 P4-hard P4-soft (length list) (length scratch)) true P4-ways list scratch → ListGives 4 P4-hard P4-soft list scratch r
P4-lists list scratch r says = record {
  ways = P4-ways;
  exact = ways_exactly (setup 4 P4-hard P4-soft) P4-ways (3 ∷ 6 ∷ 12 ∷ []) tt;
  met = true;
  meets = together_iff (setup 4 P4-hard P4-soft) 0;
  says = says;
}

pub table : Table
unfolding ask_result
table = record {
  p1 = row tt tt;
  p2 = row tt tt;
  p3 = unmet_row tt;
  p4 = row tt tt;
  p5 = row tt tt;
  p6 = row tt tt;
  p7 = row tt tt;
  p8 = row tt tt;
  p9_room_2 = λ a b x y z. P4-lists _ _ _ refl;
  p9_room_3 = λ a b c w x y z. P4-lists _ _ _ refl;
  p10_budget_2 = λ a b. refl;
  p10_budget_3 = λ a b. refl;
  p11 = λ a b. refl;
  p12 = λ a b. refl;
  p13 = λ a x y. let turn = turn_exists 1 (0 ∷ 1 ∷ []) in record { turned = turn.0; exact = turn.1; says = refl };
  p14 = row tt tt;
}
