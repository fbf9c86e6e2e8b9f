-- Duality, for any family that is decided and holds of every larger set: the smallest sets across its smallest sets are the smallest of
-- its dual, and the dual's dual is the family itself.
use mathlib.Core.Path.{sym, subst}
use mathlib.Core.Logic.Iff
use mathlib.Core.Logic.{◌↔◌, by_cases}
use Prim.Native.Nat.{ℕ, ◌^◌, ◌<◌}
use native.Mathlib.Decide.{dec_lt}
use native.Mathlib.Omega.{arith}
use Rattle.sets.specs.Sets.{Within, Share, Smallest}
use Rattle.sets.specs.Turns.{Crosses, SmallestCross}
use Rattle.numbers.proofs.Deciding.{any, strong, dec_and, dec_not, dec_iff, stable}
use Rattle.sets.proofs.Digits.{in_below, within_le, within_self, within_trans, within_dec, share_dec, other, other_lt, other_in, other_out, other_other, other_within}

-- ---- smallest sets

-- each set of a decided family has a smallest one within it
pub smallest_within : (P : ℕ → Type 0) → ((S : ℕ) → Dec (P S)) → (S : ℕ) → P S → (M : ℕ) × Within M S × Smallest P M
smallest_within P dec = strong (λ (S : ℕ). P S → (M : ℕ) × Within M S × Smallest P M) step
  where
    step : (S : ℕ) → ((R : ℕ) → R < S → P R → (M : ℕ) × Within M R × Smallest P M) → P S → (M : ℕ) × Within M S × Smallest P M
    step S smaller p = by_cases (any S (λ R. P R × Within R S) (λ R. dec_and (dec R) (within_dec R S))) deeper here
      where
        deeper : (R : ℕ) × (R < S) × (P R × Within R S) → (M : ℕ) × Within M S × Smallest P M
        deeper h = let r = smaller h.0 h.1 h.2.0 in (r.0, within_trans r.0 h.0 S r.1 h.2.1, r.2)

        here : ¬ ((R : ℕ) × (R < S) × (P R × Within R S)) → (M : ℕ) × Within M S × Smallest P M
        here q = (S, within_self S, (p, λ R w e a. q (R, (let l : R < S = omega (arith, within_le R S w) in l), (a, w))))

-- families with the same sets have the same smallest sets
pub smallest_iff : (P Q : ℕ → Type 0) → ((S : ℕ) → P S ↔ Q S) → (S : ℕ) → Smallest P S ↔ Smallest Q S
smallest_iff P Q e S = (
  (λ h. ((e S).0 h.0, λ R w n q. h.1 R w n ((e R).1 q))),
  λ h. ((e S).1 h.0, λ R w n q. h.1 R w n ((e R).0 q)),
)

-- and the same sets across
pub crosses_iff : (n : ℕ) (P Q : ℕ → Type 0) → ((S : ℕ) → P S ↔ Q S) → (S : ℕ) → Crosses n P S ↔ Crosses n Q S
crosses_iff n P Q e S = (
  (λ h. record { below = h.below; each = λ M q. h.each M ((e M).1 q) }),
  λ h. record { below = h.below; each = λ M q. h.each M ((e M).0 q) },
)

-- and the same smallest sets across
pub cross_iff : (n : ℕ) (P Q : ℕ → Type 0) → ((S : ℕ) → P S ↔ Q S) → (S : ℕ) → SmallestCross n P S ↔ SmallestCross n Q S
cross_iff n P Q e = smallest_iff (Crosses n P) (Crosses n Q) (crosses_iff n P Q e)

-- ---- the dual

-- a family over n settings that is decided and holds of every larger set
pub record Up (n : ℕ) (F : ℕ → Type 0) : Type 0 where
  pub below : (S : ℕ) → F S → S < 2 ^ n
  pub decided : (S : ℕ) → Dec (F S)
  pub larger : (S R : ℕ) → Within S R → R < 2 ^ n → F S → F R

-- its dual: the sets whose outside is not in it
pub record Dual (n : ℕ) (F : ℕ → Type 0) (C : ℕ) : Type 0 where
  pub below : C < 2 ^ n
  pub outside : ¬ F (other n C)

module _ (n : ℕ) (F : ℕ → Type 0) (up : Up n F) where
  -- a set crosses the smallest sets of a family exactly where it is in the dual
  pub crosses_dual : (C : ℕ) → Crosses n (Smallest F) C ↔ Dual n F C
  crosses_dual C = (to, from)
    where
      to : Crosses n (Smallest F) C → Dual n F C
      to h = record { below = h.below; outside = λ f. clash (smallest_within F up.decided (other n C) f) }
        where
          clash : (M : ℕ) × Within M (other n C) × Smallest F M → ⊥
          clash t = let s = h.each t.0 t.2 in other_out n C s.0 s.1 (t.1 s.0 s.2)

      from : Dual n F C → Crosses n (Smallest F) C
      from h = record { below = h.below; each = λ M f. stable (share_dec C M) (meets M f.0) }
        where
          meets : (M : ℕ) → F M → ¬ ¬ Share C M
          meets M f q =
              h.outside
              (up.larger M (other n C) (λ i k. other_in n C i (in_below n (up.below M f) k) (λ c. q (i, c, k))) (other_lt n C) f)

  -- the dual is such a family again
  pub dual_up : Up n (Dual n F)
  dual_up = record { below = λ S h. h.below; decided = dec; larger = more }
    where
      dec : (S : ℕ) → Dec (Dual n F S)
      dec S =
          dec_iff (λ h. record { below = h.0; outside = h.1 }) (λ h. (h.below, h.outside))
          (dec_and (dec_lt S (2 ^ n)) (dec_not (up.decided (other n S))))

      more : (S R : ℕ) → Within S R → R < 2 ^ n → Dual n F S → Dual n F R
      more S R w r h = record {
        below = r;
        outside = λ f. h.outside (up.larger (other n R) (other n S) (other_within n S R w) (other_lt n S) f);
      }

  -- the dual's dual is the family
  pub dual_dual : (S : ℕ) → Dual n (Dual n F) S ↔ F S
  dual_dual S = (to, from)
    where
      to : Dual n (Dual n F) S → F S
      to h =
          stable (up.decided S)
          (λ q. h.outside (record { below = other_lt n S; outside = λ f. q (subst F (other_other n S h.below) f) }))

      from : F S → Dual n (Dual n F) S
      from f = record {
        below = up.below S f;
        outside = λ d. d.outside (subst F (sym (other_other n S (up.below S f))) f);
      }

  -- the smallest sets across the smallest of a family are the smallest of its dual
  pub across : (C : ℕ) → SmallestCross n (Smallest F) C ↔ Smallest (Dual n F) C
  across = smallest_iff (Crosses n (Smallest F)) (Dual n F) crosses_dual

-- and the smallest across those are the family's smallest again
pub back : (n : ℕ) (F : ℕ → Type 0) → Up n F → (S : ℕ) → SmallestCross n (Smallest (Dual n F)) S ↔ Smallest F S
back n F up S = Iff.trans (across n (Dual n F) (dual_up n F up) S) (smallest_iff (Dual n (Dual n F)) F (dual_dual n F up) S)
