-- The ways out below a bound: the same list where none is between two bounds, and else a list that goes on.
use mathlib.Core.Path.{◌≡◌}
use mathlib.Core.Logic.Iff
use mathlib.Core.Logic.{◌⊎◌, inl, inr, ⊎_elim, ◌↔◌, by_cases}
use mathlib.Core.List.{List, [], ◌∷◌, ◌++◌}
use Prim.Native.Nat.{ℕ, ◌+◌, ◌≤◌, ◌<◌}
use native.Mathlib.Decide.{dec_le, dec_lt}
use native.Mathlib.Numerals.{add-one}
use native.Mathlib.Omega.{arith}
use Rattle.sets.specs.Lists.{Exactly}
use Rattle.numbers.proofs.Deciding.{dec_and, dec_iff}
use Rattle.sets.proofs.Lists.{exactly_unique, exactly_next, exactly_skip, listed_append, rising_append, exists}
use Rattle.setups.specs.Setups.{Setup, WayOut}
use Rattle.setups.proofs.Tests.{way_out_dec}
use Rattle.walk.specs.Walking.{Below, WayOutBetween}

-- the way out at the bound follows
pub below_next : (g : Setup) (S : ℕ) (list : List ℕ) → Below g S list → WayOut g S → Below g (S + 1) (list ++ (S ∷ []))
below_next g S list b w = rw (add-one S) (exactly_next (WayOut g) S list b w)

module _ {g : Setup} {low high : ℕ} {list : List ℕ} (l : low ≤ high) (b : Below g low list) where
  -- none is between the bounds
  pub below_skip : ¬ WayOutBetween g low high → Below g high list
  below_skip none = exactly_skip (WayOut g) low high list l (λ S from to w. none (S, w, from, to)) b

  -- a way out below `high` is below `low` or not
  parts : (S : ℕ) → (WayOut g S × (S < high)) ↔ ((WayOut g S × (S < low)) ⊎ (WayOut g S × (low ≤ S) × (S < high)))
  parts S = (
    (λ h. by_cases (dec_lt S low) (λ k. inl (h.0, k)) (λ k. inr (h.0, omega arith, h.1))),
    ⊎_elim (λ h. (h.0, omega (arith, h.1))) (λ h. (h.0, h.2)),
  )

  -- those between the bounds follow
  pub below_more : (more : List ℕ) × Below g high (list ++ more)
  below_more = (
    more.0,
    record {
      rising = rising_append list more.0 b.rising more.1.rising (λ S R s r. omega (arith, ((b.exact S).0 s).1, ((more.1.exact R).0 r).1));
      exact = λ S.
          Iff.trans (listed_append list more.0 S)
          (⊎_elim (λ h. (parts S).1 (inl ((b.exact S).0 h))) (λ h. (parts S).1 (inr ((more.1.exact S).0 h))), λ h. ⊎_elim (λ k. inl ((b.exact S).1 k)) (λ k. inr ((more.1.exact S).1 k)) ((parts S).0 h));
    },
  )
    where
      more : (more : List ℕ) × Exactly (λ S. WayOut g S × (low ≤ S) × (S < high)) more
      more =
          exists (λ S. WayOut g S × (low ≤ S) × (S < high))
          (λ S. dec_iff (λ h. (h.0, h.1.0, h.1.1)) (λ h. (h.0, (h.1, h.2))) (dec_and (way_out_dec g S) (dec_and (dec_le low S) (dec_lt S high))))
          high (λ S h. h.2)

  -- so that every list up to `high` goes on from the list up to `low`
  pub below_on : {long : List ℕ} → Below g high long → (more : List ℕ) × (long ≡ list ++ more)
  below_on {long} h =
      let m = below_more in
      (m.0, exactly_unique (λ S. WayOut g S × (S < high)) long (list ++ m.0) h m.1)
