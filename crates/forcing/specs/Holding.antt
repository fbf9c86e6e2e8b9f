-- Tests of literals under values of which some are free, true so far or still possible; and the settings that hold by a test.
use Rattle.std.specs.Prelude.{◌≡◌, refl, Bool, true, false, ◌&&◌, ◌||◌, List, [], ◌∷◌, ℕ, min, T, eqb, ltb, length, get_or}
use Rattle.sets.specs.Sets.{In}
use Rattle.setups.specs.Limits.{settings_most}
use Rattle.setups.specs.Clauses.{wish, all_pass}
use Rattle.setups.specs.Setups.{settings}
use Rattle.literals.specs.Slots.{slot}

-- the literal is true; under values of which some are free, it is true so far
abbrev pub is_true : List ℕ → ℕ → Bool
is_true values b = eqb (get_or values (slot b) 0) (wish b)

-- it is true so far, or still free
abbrev pub may_be : List ℕ → ℕ → Bool
may_be values b = is_true values b || ltb 1 (get_or values (slot b) 0)

-- variable 1 is 0, variable 2 is free: −1 is true, 2 may become so
example_tests : (is_true (0 ∷ 2 ∷ []) 129 ≡ true) × (is_true (0 ∷ 2 ∷ []) 2 ≡ false) × (may_be (0 ∷ 2 ∷ []) 2 ≡ true)
example_tests = (refl, refl, refl)

-- the setting at place i is there, and a set can name it, and all its clauses pass
abbrev pub holds : (ℕ → Bool) → List ℕ → ℕ → Bool
holds test soft i = ltb i (min (length (settings soft)) settings_most) && all_pass test (get_or (settings soft) i [])

-- soft (1), (2): under the same values the first setting does not hold, and the second may
example_holds :
    (holds (is_true (0 ∷ 2 ∷ [])) (1 ∷ 0 ∷ 2 ∷ 0 ∷ []) 0 ≡ false) × (holds (is_true (0 ∷ 2 ∷ [])) (1 ∷ 0 ∷ 2 ∷ 0 ∷ []) 1 ≡ false)
    × (holds (may_be (0 ∷ 2 ∷ [])) (1 ∷ 0 ∷ 2 ∷ 0 ∷ []) 1 ≡ true)
example_holds = (refl, refl, refl)

-- no setting of the set holds
abbrev pub AllBroken : ℕ → (ℕ → Bool) → List ℕ → Type 0
AllBroken given test soft = (i : ℕ) → In i given → ¬ T (holds test soft i)
