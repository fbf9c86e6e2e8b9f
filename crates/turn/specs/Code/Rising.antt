-- A list rises in one way at the most, so that a value can carry the fact.
use Rattle.std.specs.Prelude.{List, [], ◌∷◌, ℕ}
use Rattle.std.specs.Coded.{×_prop, Π_prop, Unit-prop, le_prop}
use Rattle.sets.specs.Lists.{Rising}

pub rising_prop : (list : List ℕ) → IsProp (Rising list)
rising_prop [] = Unit-prop
rising_prop (S ∷ list) = ×_prop (Π_prop (λ R. Π_prop (λ h. le_prop))) (rising_prop list)
