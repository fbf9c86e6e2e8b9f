-- Lent places after a call (document 01: "places beyond what was written stay as they were").
use Rattle.std.specs.Prelude.{◌≡◌, refl, List, [], ◌∷◌, ◌++◌, ℕ, length, drop}

-- what is written from the first place on, before what the places beyond it held
abbrev pub written : List ℕ → List ℕ → List ℕ
written new places = new ++ drop (length new) places

-- two sets in three places leave the third
example_written : written (5 ∷ 6 ∷ []) (9 ∷ 9 ∷ 9 ∷ []) ≡ 5 ∷ 6 ∷ 9 ∷ []
example_written = refl
