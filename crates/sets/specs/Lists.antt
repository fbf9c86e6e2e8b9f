-- Lists of sets (document 01, "Ways out and clashes": lists rise strictly by value).
use Rattle.std.specs.Prelude.{◌≡◌, refl, ◌⊎◌, ◌↔◌, List, [], ◌∷◌, ℕ, ◌<◌}
use Rattle.std.proofs.Common.{inl, inr}
use Rattle.sets.specs.Sets.{Within}

-- S is one of these
abbrev pub Among : {A : Type 0} → A → List A → Type 0
Among S [] = ⊥
Among S (R ∷ list) = (S ≡ R) ⊎ Among S list

-- 6 stands in the list 5, 6, 10
example_among : Among {A = ℕ} 6 (5 ∷ 6 ∷ 10 ∷ [])
example_among = inr (inl refl)

-- each set is below all that follow it
abbrev pub Rising : List ℕ → Type 0
Rising [] = Unit {0}
Rising (S ∷ list) = ((R : ℕ) → Among R list → S < R) × Rising list

-- no set of the list contains another
abbrev pub Apart : List ℕ → Type 0
Apart list = (S R : ℕ) → Among S list → Among R list → Within S R → S ≡ R

-- the list holds, rising, exactly the sets that have P: each once, none missing, none besides
pub record Exactly (P : ℕ → Type 0) (list : List ℕ) : Type 0 where
  pub rising : Rising list
  pub exact : (S : ℕ) → Among S list ↔ P S
