-- Turning a list of sets (document 01: Turn "writes the sets that share a setting with each member and have no proper subset that does").
use Rattle.std.specs.Prelude.{refl, List, [], ◌∷◌, ℕ, ◌^◌, ◌<◌}
use Rattle.std.proofs.Common.{sym, subst, inl, inr, arith}
use Rattle.sets.specs.Sets.{Share, Smallest}
use Rattle.sets.specs.Lists.{Among, Rising, Apart, Exactly}

-- S, a set over n settings, shares a setting with each set of the family
pub record Crosses (n : ℕ) (Family : ℕ → Type 0) (S : ℕ) : Type 0 where
  pub below : S < 2 ^ n
  pub each : (M : ℕ) → Family M → Share S M

-- 2 shares a setting with 3 and with 6
example_crosses : Crosses 3 (λ M. Among M (3 ∷ 6 ∷ [])) 2
example_crosses = record { below = omega arith; each = each } where
  each : (M : ℕ) → Among M (3 ∷ 6 ∷ []) → Share 2 M
  each M (inl three) = subst (Share 2) (sym three) (1, refl, refl)
  each M (inr (inl six)) = subst (Share 2) (sym six) (1, refl, refl)
  each M (inr (inr none)) = elim none [ ]

-- and no proper subset of it does
abbrev pub SmallestCross : ℕ → (ℕ → Type 0) → ℕ → Type 0
SmallestCross n Family = Smallest (Crosses n Family)

-- a list that Turn and Mark take over n settings: strictly rising, no setting above the count, no set within another
pub record Fine (n : ℕ) (list : List ℕ) : Type 0 where
  pub rising : Rising list
  pub below : (S : ℕ) → Among S list → S < 2 ^ n
  pub apart : Apart list

-- `turned` is the turn of `list` over n settings. Over two settings the turn of 3 is 1, 2, and the turn of 1, 2 is 3;
-- the turn of the empty list is the list of the empty set alone, and the other way about.
abbrev pub Turned : ℕ → List ℕ → List ℕ → Type 0
Turned n list turned = Exactly (SmallestCross n (λ M. Among M list)) turned
