-- The set of the settings that hold, counted along the soft buffer.
use mathlib.Core.Path.{◌≡◌, refl}
use mathlib.Core.Logic.Iff
use mathlib.Core.Logic.{◌⊎◌, inl, inr, ⊎_elim, ◌↔◌, ◌≢◌}
use mathlib.Core.Bool.{Bool, false, ◌||◌}
use mathlib.Core.List.{List, ◌∷◌}
use Prim.Native.Nat.{ℕ, zero, suc, ◌+◌, ◌≤◌, ◌<◌, zero-le}
use native.Mathlib.Omega.{arith}
use lib.Dec.{T}
use lib.ListN.{length, get_or, drop}
use Rattle.sets.specs.Sets.{In}
use Rattle.sets.specs.Tests.{has}
use Rattle.numbers.proofs.Deciding.{T-equal}
use Rattle.sets.proofs.Digits.{none_in}
use Rattle.sets.proofs.Tests.{has_in, in_has}
use Rattle.setups.specs.Limits.{settings_most}
use Rattle.setups.specs.Clauses.{clauses}
use Rattle.literals.specs.Slots.{slot}
use Rattle.forcing.specs.Holding.{is_true, may_be, holds}
use Rattle.forcing.specs.Selectors.{next_selector, Adds}
use Rattle.forcing.specs.Standings.{looked}
use Rattle.forcing.specs.declared.standing.Chance.{Chance}
use Rattle.forcing.specs.declared.standing.Chance.TheVariants.{AllFalse}
use Rattle.forcing.proofs.StandingLaws.{is_sure, is_possible, looked_sure, looked_possible}
use Rattle.forcing.proofs.Verdicts.{verdicts, verdict_holds, verdicts_past, verdicts_end, verdicts_literal}

-- the setting at place j is one of those whose verdicts these are, the first of them at selector n
abbrev Later : List Bool → ℕ → ℕ → Type 0
Later rest n j = (k : ℕ) × (j ≡ n + k) × (j < settings_most) × T (get_or rest k false)

-- at place i, with selector n: the settings that hold are those counted, and those that hold from there on
pub record Tallying (test : ℕ → Bool) (soft : List ℕ) (set : ℕ) (sofar : Bool) (n i : ℕ) : Type 0 where
  pub upto : i ≤ length soft
  pub counts : (j : ℕ) → T (holds test soft j) ↔ (In j set ⊎ Later (verdicts test sofar (clauses (drop i soft))) n j)

pub tallying_starts : {test : ℕ → Bool} {soft : List ℕ} {sofar : Bool} {n : ℕ} → sofar ≡ false → n ≡ 0 → Tallying test soft 0 sofar n 0
tallying_starts {test} {soft} e z = rw (e, z) (record {
  upto = zero-le;
  counts = λ j. Iff.trans (verdict_holds test soft j) (
    (λ h. inr (j, omega arith, h.0, h.1)),
    ⊎_elim (λ h. absurd (none_in j h)) (λ h. (h.2, rw (let e : j ≡ h.0 = omega (arith, h.1) in e) h.3)),
  );
})

-- the settings counted and those to come, past the end of one
past_end : (set set' n j : ℕ) (sofar : Bool) (rest : List Bool) → Adds set sofar n set'
    → (In j set ⊎ Later (sofar ∷ rest) n j) ↔ (In j set' ⊎ Later rest (next_selector n) j)
past_end set set' n j sofar rest adds = (
  ⊎_elim (λ h. inl ((adds j).1 (inl h))) to,
  ⊎_elim (λ h. ⊎_elim inl (λ q. inr (0, omega arith, q.2, q.0)) ((adds j).0 h)) from,
)
  where
    to : Later (sofar ∷ rest) n j → In j set' ⊎ Later rest (next_selector n) j
    to (zero, e, l, t) = inl ((adds j).1 (inr (t, omega arith, l)))
    to (suc k, e, l, t) = inr (k, omega arith, l, t)

    from : Later rest (next_selector n) j → In j set ⊎ Later (sofar ∷ rest) n j
    from h = inr (suc h.0, omega (arith, h.1, h.2), h.2, h.3)

module _ {test : ℕ → Bool} {soft : List ℕ} {set : ℕ} {sofar : Bool} {n i : ℕ} (at : Tallying test soft set sofar n i) where
  -- the setting at hand ends
  pub tallying_ends : i < length soft → get_or soft i 0 ≡ 0 → {set' n' : ℕ} {next-sofar : Bool} → Adds set sofar n set' → n' ≡ next_selector n
      → next-sofar ≡ false → Tallying test soft set' next-sofar n' (i + 1)
  tallying_ends l z {set'} adds e f = rw (e, f) (record {
    upto = omega arith;
    counts = λ j. Iff.trans (rw (verdicts_end test sofar soft i l z) at (at.counts j))
        (past_end set set' n j sofar (verdicts test false (clauses (drop (i + 1) soft))) adds);
  })

  -- it has one literal more
  pub tallying_reads : i < length soft → get_or soft i 0 ≢ 0 → {next-sofar : Bool} → next-sofar ≡ (sofar || test (get_or soft i 0))
      → Tallying test soft set next-sofar n (i + 1)
  tallying_reads l z f =
      rw f (record { upto = omega arith; counts = λ j. rw (verdicts_literal test sofar soft i l z) at (at.counts j) })

  -- the buffer ends
  pub tallying_done : length soft ≤ i → (j : ℕ) → has set j ≡ holds test soft j
  tallying_done l j =
      let counted = rw (verdicts_past test sofar soft i l) at (at.counts j) in
      T-equal (has set j) (holds test soft j) (
        (λ t. counted.1 (inl (has_in set j t))),
        λ t. ⊎_elim (in_has set j) (λ h. absurd h.3) (counted.0 t),
      )

-- ---- both sets at once: the settings that are true so far, and those that may become so

pub record Counting (values soft : List ℕ) (sure possible : ℕ) (chance : Chance) (n i : ℕ) : Type 0 where
  pub trues : Tallying (is_true values) soft sure (is_sure chance) n i
  pub opens : Tallying (may_be values) soft possible (is_possible chance) n i

pub standing_starts : {values soft : List ℕ} {n : ℕ} → n ≡ 0 → Counting values soft 0 0 AllFalse n 0
standing_starts z = record { trues = tallying_starts refl z; opens = tallying_starts refl z }

module _ {values soft : List ℕ} {sure possible : ℕ} {chance : Chance} {n i : ℕ} (at : Counting values soft sure possible chance n i) where
  pub standing_ends : i < length soft → get_or soft i 0 ≡ 0 → {sure' possible' n' : ℕ}
      → Adds sure (is_sure chance) n sure' → Adds possible (is_possible chance) n possible' → n' ≡ next_selector n
      → Counting values soft sure' possible' AllFalse n' (i + 1)
  standing_ends l z a b e =
      record { trues = tallying_ends at.trues l z a e refl; opens = tallying_ends at.opens l z b e refl }

  pub standing_reads : i < length soft → get_or soft i 0 ≢ 0 → {p : ℕ} → p ≡ slot (get_or soft i 0) → {chance' : Chance}
      → chance' ≡ looked chance (get_or soft i 0) (get_or values p 0) → Counting values soft sure possible chance' n (i + 1)
  standing_reads l z s e = rw (e, s) (record {
    trues = tallying_reads at.trues l z (looked_sure chance (get_or soft i 0) (get_or values (slot (get_or soft i 0)) 0));
    opens = tallying_reads at.opens l z (looked_possible chance (get_or soft i 0) (get_or values (slot (get_or soft i 0)) 0));
  })
