-- A literal's place among the values, and values of which none is free.
use mathlib.Core.Path.{◌≡◌}
use mathlib.Core.List.{List, [], ◌∷◌}
use Prim.Native.Nat.{ℕ, zero, suc, ◌≤◌, ◌<◌, suc-le-suc}
use native.Mathlib.Nat.{zero-lt-suc}
use native.Mathlib.Omega.{arith}
use lib.ListN.{length, get_or}
use Rattle.setups.specs.Limits.{variables_most}
use Rattle.setups.specs.Clauses.{LiteralOf, place}
use Rattle.literals.specs.Slots.{slot, AllSet}

-- where the code finds the value of a literal's variable
pub slot_place : (n b : ℕ) → n ≤ variables_most → LiteralOf n b → slot b ≡ place b
slot_place n b s l = omega arith

-- no value is free where none of those that there are is
pub all_set : (values : List ℕ) → ((i : ℕ) → i < length values → get_or values i 0 < 2) → AllSet values
all_set [] h i = zero-lt-suc 1
all_set (x ∷ values) h zero = h 0 (zero-lt-suc (length values))
all_set (x ∷ values) h (suc i) = all_set values (λ j l. h (suc j) (suc-le-suc l)) i
