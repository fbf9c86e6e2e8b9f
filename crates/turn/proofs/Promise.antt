-- What Turn's promise says: there is no second result, each answer means what document 01 says, a list that may be turned turns into
-- its turn, which turns back, and the ways out of a setup turn into its clashes and back.
use mathlib.Core.Path.{◌≡◌, refl, sym, ap, ◌∙◌}
use mathlib.Core.Logic.{◌≢◌, ◌↔◌}
use mathlib.Core.Bool.{not, ◌||◌}
use mathlib.Core.List.{List, [], ◌∷◌}
use Prim.Native.Nat.{ℕ, ◌≤◌, ◌<◌}
use native.Mathlib.Omega.{arith}
use borrow.Author.Tests.{le-ltb, lt-leb, eqb-true, eqb-false, ltb-false, leb-false, not-false}
use lib.Dec.{ltb, leb, eqb}
use lib.ListN.{length}
use Rattle.std.specs.Prelude.{Result, Ok, Err}
use Rattle.sets.specs.Lists.{Among, Exactly}
use Rattle.sets.specs.Tests.{fine}
use Rattle.sets.specs.Turns.{SmallestCross, Turned}
use Rattle.numbers.proofs.Deciding.{T_true, neither, cond_case}
use Rattle.sets.proofs.Tests.{fine_iff}
use Rattle.sets.proofs.Turning.{turn_exists, turn_unique, turned_fine, turn_back, turn_of_empty, turn_of_nothing}
use Rattle.setups.specs.declared.Refusal.{Refusal}
use Rattle.setups.specs.declared.Refusal.TheVariants.{Size, Work, Softs, TooMany, List as NotAList}
use Rattle.setups.specs.Limits.{sets_most, settings_most}
use Rattle.setups.specs.Setups.{Setup, count, WayOut, Clash}
use Rattle.setups.specs.Refusals.{number_of, finished}
use Rattle.setups.specs.GivenOut.{ListResult, listed_sets, without_list, given_out}
use Rattle.setups.specs.Turn.{turn_refusal, turned_result, TurnGives}
use Rattle.setups.proofs.Duality.{clashes_turned, ways_out_turned}
use Rattle.setups.proofs.GivenOut.{number_so, filled_so, list_so, scratch_so, gives_nothing, gives_exactly}
use Rattle.setups.proofs.Refusals.{number_only, refused_number, check_none}
use Rattle.turn.specs.Turning.{answered, Turns}
use Rattle.turn.specs.Meaning.{Turnable, TurnMeans}

-- ---- a result, and no second one

pub turns_exist : (n : ℕ) (given list scratch : List ℕ) → (r : ListResult) × TurnGives n given list scratch r
turns_exist n given list scratch =
    let t = turn_exists n given in
    (turned_result (turn_refusal n given (length list) (length scratch)) t.0 list scratch, record { turned = t.0; exact = t.1; says = refl })

pub turn_result_only : (n : ℕ) (given list scratch : List ℕ) (r s : ListResult) → TurnGives n given list scratch r → TurnGives n given list scratch s → r ≡ s
turn_result_only n given list scratch r s p q = p.says ∙ rw (turn_unique n given p.turned q.turned p.exact q.exact) (sym q.says)

-- one result comes from one answer and two buffers
answered_only : (answer other : Result ℕ Refusal) (list scratch list_too scratch_too : List ℕ) → answered answer list scratch ≡ answered other list_too scratch_too
    → (answer ≡ other) × (list ≡ list_too) × (scratch ≡ scratch_too)
answered_only (Ok n) (Ok m) list scratch list_too scratch_too e = (ap Ok (filled_so e), list_so e, scratch_so e)
answered_only (Ok n) (Err b) list scratch list_too scratch_too e = absurd (refused_number b (sym (number_so e)))
answered_only (Err a) (Ok m) list scratch list_too scratch_too e = absurd (refused_number a (number_so e))
answered_only (Err a) (Err b) list scratch list_too scratch_too e = (ap Err (number_only a b (number_so e)), list_so e, scratch_so e)

pub turn_only : (n : ℕ) (given list scratch : List ℕ) (answer other : Result ℕ Refusal) (list_after scratch_after list_too scratch_too : List ℕ)
    → Turns n given list scratch answer list_after scratch_after → Turns n given list scratch other list_too scratch_too
    → (answer ≡ other) × (list_after ≡ list_too) × (scratch_after ≡ scratch_too)
turn_only n given list scratch answer other list_after scratch_after list_too scratch_too p q =
    answered_only answer other list_after scratch_after list_too scratch_too
    (turn_result_only n given list scratch (answered answer list_after scratch_after) (answered other list_too scratch_too) p q)

-- ---- what each answer means

module _ (n : ℕ) (given : List ℕ) (room scratch_room : ℕ) where
  -- the checks before the search give 7, 2, 3 or 9, or none
  pub turn_most : (turn_refusal n given room scratch_room ≤ 9) × (turn_refusal n given room scratch_room ≢ number_of TooMany)
  turn_most =
      cond_case Small (ltb settings_most n) (λ e. omega arith) (λ e. cond_case Small (ltb sets_most (length given) || ltb sets_most room) (λ e. omega arith)
      (λ e. cond_case Small (leb scratch_room room) (λ e. omega arith) (λ e. cond_case Small (not (fine n given)) (λ e. omega arith) (λ e. omega arith))))
    where
      Small : ℕ → Type 0
      Small x = (x ≤ 9) × (x ≢ number_of TooMany)

  -- none is given exactly when the list may be turned
  pub turnable_iff : (turn_refusal n given room scratch_room ≡ 0) ↔ Turnable n given room scratch_room
  turnable_iff = (to, from)
    where
      to : turn_refusal n given room scratch_room ≡ 0 → Turnable n given room scratch_room
      to e =
          let softs = check_none (ltb settings_most n) Softs _ e in
          let size = check_none (ltb sets_most (length given) || ltb sets_most room) Size _ softs.1 in
          let sizes = neither (ltb sets_most (length given)) (ltb sets_most room) size.0 in
          let work = check_none (leb scratch_room room) Work _ size.1 in
          let list = check_none (not (fine n given)) NotAList 0 work.1 in
          record {
            settings = ltb-false settings_most n softs.0;
            sets = ltb-false sets_most (length given) sizes.0;
            places = ltb-false sets_most room sizes.1;
            work = leb-false scratch_room room work.0;
            fine = (fine_iff n given).0 ((T_true (fine n given)).1 (not-false (fine n given) list.0));
          }

      from : Turnable n given room scratch_room → turn_refusal n given room scratch_room ≡ 0
      from t =
          rw (le-ltb settings_most n t.settings, le-ltb sets_most (length given) t.sets, le-ltb sets_most room t.places, lt-leb scratch_room room t.work, (T_true (fine n given)).0 ((fine_iff n given).1 t.fine))

pub turn_means : (n : ℕ) (given list scratch : List ℕ) (r : ListResult) → TurnGives n given list scratch r
    → TurnMeans n given (turn_refusal n given (length list) (length scratch)) list scratch r
turn_means n given list scratch r p = cond_case (λ (x : ListResult). r ≡ x → Meant) (eqb refusal 0) (λ e. given_out_lem (eqb-true refusal 0 e)) (λ e. refused (eqb-false refusal 0 e)) p.says
  where
    refusal : ℕ
    refusal = turn_refusal n given (length list) (length scratch)

    Meant : Type 0
    Meant = TurnMeans n given refusal list scratch r

    Cross : ℕ → Type 0
    Cross = SmallestCross n (λ M. Among M given)

    given_out_lem : refusal ≡ 0 → r ≡ given_out p.turned list scratch → Meant
    given_out_lem none q = record { refused = λ some. absurd (some none); gives = rw q (gives_exactly (refusal ≡ 0) Cross list scratch none p.turned p.exact) }

    refused : refusal ≢ 0 → r ≡ without_list refusal list scratch → Meant
    refused some q = record {
      refused = λ k. q;
      gives = gives_nothing (refusal ≡ 0) Cross list scratch some r (λ k. some (sym (number_so q) ∙ k))
          (λ k. (turn_most n given (length list) (length scratch)).1 (sym (number_so q) ∙ k));
    }

-- ---- what a list that may be turned turns into

-- its turn, refused for want of room alone
pub turn_gives : (n : ℕ) (given turned list scratch : List ℕ) (r : ListResult) → Turnable n given (length list) (length scratch) → Turned n given turned
    → TurnGives n given list scratch r → r ≡ given_out turned list scratch
turn_gives n given turned list scratch r t u p =
    p.says ∙ rw ((turnable_iff n given (length list) (length scratch)).1 t, turn_unique n given p.turned turned p.exact u)

module _ (list scratch : List ℕ) (room : length list ≤ sets_most) (work : length list < length scratch) where
  -- of two lists that are each other's turn, either turns into the other
  turn_between : (n : ℕ) (given turned : List ℕ) → n ≤ settings_most → length given ≤ sets_most → Turned n given turned → Turned n turned given → (r : ListResult)
      → TurnGives n given list scratch r → r ≡ given_out turned list scratch
  turn_between n given turned few short t back r =
      turn_gives n given turned list scratch r (record { settings = few; sets = short; places = room; work = work; fine = turned_fine n turned given back }) t

  -- the empty list turns into the list of the empty set alone, and the other way about
  pub turn_empty : (n : ℕ) → n ≤ settings_most → (r : ListResult) → TurnGives n [] list scratch r → r ≡ given_out (0 ∷ []) list scratch
  turn_empty n few = turn_between n [] (0 ∷ []) few (omega arith) (turn_of_empty n) (turn_of_nothing n)

  pub turn_empty_set : (n : ℕ) → n ≤ settings_most → (r : ListResult) → TurnGives n (0 ∷ []) list scratch r → r ≡ given_out [] list scratch
  turn_empty_set n few = turn_between n (0 ∷ []) [] few (omega arith) (turn_of_nothing n) (turn_of_empty n)

  -- what a finished turn has listed turns into the list that it was given
  pub turned_twice : (n : ℕ) (given list₁ scratch₁ : List ℕ) (r s : ListResult) → TurnGives n given list₁ scratch₁ r → r.number ≡ finished
      → TurnGives n (listed_sets r) list scratch s → s ≡ given_out given list scratch
  turned_twice n given list₁ scratch₁ r s p done =
      let gives = (turn_means n given list₁ scratch₁ r p).gives in
      let held = gives.holds done in
      let taken = (turnable_iff n given (length list₁) (length scratch₁)).0 (gives.lists.0 done).0 in
      turn_between n (listed_sets r) given taken.settings (omega (arith, held.places, held.room, taken.places)) (turn_back n given taken.fine (listed_sets r) held.sets)
      held.sets s

  -- the ways out of a setup turn into its clashes, and those into the ways out
  module _ (g : Setup) (few : count g ≤ settings_most) (ways clashes : List ℕ) (w : Exactly (WayOut g) ways) (c : Exactly (Clash g) clashes) (r : ListResult) where
    pub turn_clashes : length ways ≤ sets_most → TurnGives (count g) ways list scratch r → r ≡ given_out clashes list scratch
    turn_clashes short = turn_between (count g) ways clashes few short (clashes_turned g ways clashes w c) (ways_out_turned g ways clashes w c) r

    pub turn_ways_out : length clashes ≤ sets_most → TurnGives (count g) clashes list scratch r → r ≡ given_out ways list scratch
    turn_ways_out short = turn_between (count g) clashes ways few short (ways_out_turned g ways clashes w c) (clashes_turned g ways clashes w c) r
