-- The wrong programs for List are refuted: each comes to a row of the table, where the promise has one result.
use mathlib.Core.Path.{◌≡◌, refl, sym, ap, ◌∙◌}
use mathlib.Core.Logic.{inl}
use mathlib.Core.Bool.{true}
use mathlib.Core.List.{List, [], ◌∷◌}
use Prim.Native.Nat.{ℕ}
use native.Mathlib.Omega.{arith}
use lib.ListN.{length, drop}
use Rattle.sets.proofs.Tests.{listed_iff}
use Rattle.setups.specs.Setups.{Setup}
use Rattle.setups.specs.List.{list_refusal}
use Rattle.setups.specs.GivenOut.{ListResult, given_out}
use Rattle.table.specs.Rows.{neg, Row}
use Rattle.table.proofs.Table.{table}
use Rattle.list.proofs.Promise.{list_result_only, lists_exist}
use Rattle.refuted.specs.Programs.{Program, RefusesAll, WritesNothing}
use Rattle.refuted.specs.Lists.{KeepsList, AnswersP4, VariesFirst, MakesUpCount, ListsEnumerated, BlocksFoundOnly, KeepsCandidates, ListsFewest, GivesUpUnset, DropsEqual}
use Rattle.refuted.proofs.Programs.{room, work, first_alike, Gives, at, not_refusing, not_silent}
use Rattle.refuted.proofs.Enumeration.{enumeration_loses, found_only_larger, both_row, way_down_longer}

-- some program keeps the promise
pub list_kept : (P : Program Setup) × KeepsList P
list_kept = (
  (λ g list scratch. (lists_exist g.variables g.hard g.soft list scratch).0),
  λ g list scratch. (lists_exist g.variables g.hard g.soft list scratch).1,
)

-- on a row of the table the program has this one result, in any buffers and in ours
module _ {P : Program Setup} (keeps : KeepsList P) {g : Setup} {ways clashes : List ℕ} (row : Row g ways clashes) where
  lent : (list scratch : List ℕ) → list_refusal g.variables g.hard g.soft (length list) (length scratch) ≡ 0 → Gives P g list scratch (given_out ways list scratch)
  lent list scratch e = record {
    so =
        list_result_only g.variables g.hard g.soft list scratch (P g list scratch) (given_out ways list scratch) (keeps g list scratch)
        (record { ways = ways; exact = row.ways_out; met = true; meets = ((λ t. row.met), λ t. tt); says = rw e });
  }

  on : list_refusal g.variables g.hard g.soft 3 4 ≡ 0 → Gives P g room work (given_out ways room work)
  on e = lent room work e

-- ---- the refutations

pub list_not_refusing : (P : Program Setup) → RefusesAll Setup P → ¬ KeepsList P
list_not_refusing P wrong keeps = not_refusing (on keeps table.p2 refl) refl wrong

pub list_not_silent : (P : Program Setup) → WritesNothing Setup P → ¬ KeepsList P
list_not_silent P wrong keeps = not_silent (on keeps table.p2 refl) (λ e. omega (arith, first_alike e)) wrong

pub list_not_P4 : (P : Program Setup) → AnswersP4 P → ¬ KeepsList P
list_not_P4 P wrong keeps = omega (arith, first_alike (at (on keeps table.p2 refl) wrong refl))

-- P6 and P7 differ only in what the settings are, and begin alike, with 1; P6 goes on
pub list_not_varied : (more : ℕ → List ℕ → ℕ → List ℕ → List ℕ → ℕ → List ℕ) (P : Program Setup) → VariesFirst more P → ¬ KeepsList P
list_not_varied more P wrong keeps =
    let two = next (at (on keeps table.p6 refl) wrong refl) in
    let one = next (at (on keeps table.p7 refl) wrong refl) in
    omega (arith, ap length (two ∙ sym one))
  where
    next : {S : ℕ} {others : List ℕ} → ((first : ℕ) × (S ∷ others ≡ first ∷ more 1 [] 2 room work first)) → others ≡ more 1 [] 2 room work S
    next {S} (first, e) = let f : S ≡ first = first_alike e in ap (drop 1) e ∙ rw f

-- one has two ways out, and the other one
pub list_not_made_up : (made : ℕ → List ℕ → ℕ → List ℕ → List ℕ → ℕ) (P : Program Setup) → MakesUpCount made P → ¬ KeepsList P
list_not_made_up made P wrong keeps = omega (arith, at (on keeps table.p6 refl) wrong refl, at (on keeps table.p7 refl) wrong refl)

pub list_not_enumerated : (P : Program Setup) → ListsEnumerated P → ¬ KeepsList P
list_not_enumerated P wrong keeps =
    let given = at (on keeps table.p2 refl) wrong refl in
    rw (enumeration_loses given.1) at ((given.2 1).0 (inl refl))

-- P6: 3 would be listed
pub list_not_found_only : (P : Program Setup) → BlocksFoundOnly P → ¬ KeepsList P
list_not_found_only P wrong keeps =
    let given = at (on keeps table.p6 refl) wrong refl in
    (listed_iff 3 (1 ∷ 2 ∷ [])).1 ((given.2 3).1 (found_only_larger given.1))

-- where both settings can be had, in room 1: the one way out fits, and no way down to it
pub list_not_candidates : (P : Program Setup) → KeepsCandidates P → ¬ KeepsList P
list_not_candidates P wrong keeps =
    let kept = at (lent keeps both_row (7 ∷ []) (6 ∷ 6 ∷ []) refl) wrong refl in
    omega (arith, kept.2, way_down_longer kept.0 kept.1)

pub list_not_fewest : (P : Program Setup) → ListsFewest P → ¬ KeepsList P
list_not_fewest P wrong keeps =
    let fewest = at (on keeps table.p14 refl) wrong refl (1 ∷ 6 ∷ []) table.p14.ways_out in
    omega (arith, ap length fewest)

-- P7: 3 would be listed
pub list_not_unset : (P : Program Setup) → GivesUpUnset P → ¬ KeepsList P
list_not_unset P wrong keeps = (listed_iff 3 (1 ∷ [])).1 (at (on keeps table.p7 refl) wrong refl)

pub list_not_dropping : (P : Program Setup) → DropsEqual P → ¬ KeepsList P
list_not_dropping P wrong keeps =
    let twice = (on keeps table.p5 refl).so in
    let same = wrong 1 (neg 1 ∷ 0 ∷ []) (1 ∷ 0 ∷ []) room work (ap (λ (r : ListResult). r.number) twice) in
    omega (arith, first_alike (ap (λ (r : ListResult). r.list) (sym twice ∙ same ∙ (on keeps table.p2 refl).so)))
