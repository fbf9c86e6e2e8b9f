-- How each setting fares over a list (document 01: "tested in this order: K (kept) if no set has it, L (lost) if every set has it,
-- O (open) otherwise").
use Rattle.std.specs.Prelude.{◌≡◌, refl, not, cond, List, [], ◌∷◌, ℕ, zero, suc}
use Rattle.sets.specs.Tests.{has, all}

-- the letters, in ASCII
abbrev pub kept : ℕ
kept = 75

abbrev pub lost : ℕ
lost = 76

abbrev pub open' : ℕ
open' = 79

-- the mark of the setting at place i
abbrev pub mark : List ℕ → ℕ → ℕ
mark list i = cond (all (λ S. not (has S i)) list) kept (cond (all (λ S. has S i) list) lost open')

-- the marks of the settings from place i on, n of them
abbrev pub marks_from : ℕ → ℕ → List ℕ → List ℕ
marks_from i zero list = []
marks_from i (suc n) list = mark list i ∷ marks_from (suc i) n list

-- the marks of n settings
abbrev pub marks : ℕ → List ℕ → List ℕ
marks n list = marks_from 0 n list

-- over 3, 5 the first of four settings is lost, the next two are open, the last is kept; over the empty list all are kept
example_marks : (marks 4 (3 ∷ 5 ∷ []) ≡ lost ∷ open' ∷ open' ∷ kept ∷ []) × (marks 2 [] ≡ kept ∷ kept ∷ [])
example_marks = (refl, refl)
