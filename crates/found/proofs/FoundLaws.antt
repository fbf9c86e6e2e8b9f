-- Found sets: the last setting of a set, and what all found sets ask of the settings.
use mathlib.Core.Path.{◌≡◌, refl, subst}
use mathlib.Core.Logic.{inl, ⊎_elim}
use mathlib.Core.Bool.{Bool, true, false, false≢true}
use mathlib.Core.List.{List}
use Prim.Native.Nat.{ℕ, ◌+◌, ◌≤◌, ◌<◌, zero-le}
use native.Mathlib.Omega.{arith}
use lib.Bits.{bit_and, bit_or}
use lib.Dec.{T}
use lib.ListN.{length, get_or}
use Rattle.std.specs.Prelude.{Some, None, MatchBool, ◌↔◌}
use Rattle.std.specs.List.{AllWithin, HoldsAt}
use Rattle.sets.specs.Sets.{In, Within, Share, AtMostOne}
use Rattle.sets.specs.Tests.{has}
use Rattle.sets.proofs.Digits.{none_in, and_in, or_joins}
use Rattle.sets.proofs.Lists.{place_listed, listed_place}
use Rattle.sets.proofs.Tests.{has_in, in_has}
use Rattle.found.specs.FoundSets.{Each, One, Fit, KeepsLast, Narrows}

-- ---- the last setting of a set

pub keeps_last : (kept left : ℕ) → AtMostOne left → KeepsLast kept left (bit_or kept left)
keeps_last kept left lone = record {
  grows = λ i h. (or_joins kept left i).1 (inl h);
  only = λ test each one i h.
      ⊎_elim (each i) (λ k. subst (λ (x : ℕ). T (test x)) (lone one.0 i one.1 k) one.2) ((or_joins kept left i).0 h);
}

-- ---- all found sets

-- the sets before place i are put to use
pub record Narrowing (kept possible : ℕ) (found : List ℕ) (wider i : ℕ) : Type 0 where
  pub upto : i ≤ length found
  pub grows : Within kept wider
  pub only : (test : ℕ → Bool) → ((j : ℕ) → T (test j) → In j possible) → Fit kept found test → Each wider test

module _ (kept possible : ℕ) (found : List ℕ) where
  -- a kept setting is not possible
  pub narrows_kept : ¬ Within kept possible → Narrows kept possible found None
  narrows_kept n test could fit = n (λ j h. could j (fit.keeps j h))

  module _ (wider i : ℕ) (at : Narrowing kept possible found wider i) where
    -- of the set at place i one setting passes that is possible
    one_left : i < length found → (test : ℕ → Bool) → ((j : ℕ) → T (test j) → In j possible) → Fit kept found test
        → One (bit_and (get_or found i 0) possible) test
    one_left l test could fit =
        let one = fit.each (get_or found i 0) (place_listed found i l) in
        (one.0, (and_in (get_or found i 0) possible one.0).1 (one.1, could one.0 one.2), one.2)

    pub narrowing_more : i < length found → (next : ℕ) → KeepsLast wider (bit_and (get_or found i 0) possible) next
        → Narrowing kept possible found next (i + 1)
    narrowing_more l next k = record {
      upto = omega arith;
      grows = λ j h. k.grows j (at.grows j h);
      only = λ test could fit. k.only test (at.only test could fit) (one_left l test could fit);
    }

    -- none of its settings is possible
    pub narrows_none : i < length found → bit_and (get_or found i 0) possible ≡ 0 → Narrows kept possible found None
    narrows_none l e test could fit = let one = one_left l test could fit in none_in one.0 (subst (In one.0) e one.1)

    pub narrows_all : Narrows kept possible found (Some wider)
    narrows_all = record { grows = at.grows; stays = at.only }

-- ---- whether all is met

module _ (kept sure : ℕ) (found : List ℕ) where
  -- what has the kept settings fits where each found set shares a setting with it
  pub fits_all : Within kept sure → (all : Bool)
      → MatchBool all (AllWithin (λ W. Share W sure) found 0 (length found)) ((k : ℕ) × (k < length found) × HoldsAt (λ W. ¬ Share W sure) found k)
      → (all ≡ true) ↔ Fit kept found (has sure)
  fits_all w true each = (
    (λ e. record {
      keeps = λ j h. in_has sure j (w j h);
      each = λ W h.
          let place = listed_place found W h in
          let s = each place.0 0 zero-le place.1 in
          (s.0, subst (In s.0) place.2 s.1, in_has sure s.0 s.2);
    }),
    λ fit. refl,
  )
  fits_all w false missed = (
    (λ e. absurd (false≢true e)),
    λ fit.
        let one = fit.each (get_or found missed.0 0) (place_listed found missed.0 missed.1) in
        absurd (missed.2 0 (one.0, one.1, has_in sure one.0 one.2)),
  )
