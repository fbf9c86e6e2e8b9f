-- The places that the code has for values, one for each variable there can be.
use Rattle.std.specs.Prelude.{◌≡◌, refl, List, [], ◌∷◌, ◌++◌, ℕ, suc, ◌-◌, ◌%◌, ◌<◌, get_or, replicate, Option, Some, None}
use Rattle.std.proofs.Common.{arith, lit<}
use Rattle.numbers.specs.declared.Variable.{Variable}
use Rattle.numbers.specs.Numbers.{negated}
use Rattle.numbers.specs.Code.Places.{value_place}
use Rattle.setups.specs.Limits.{variables_most}
use Rattle.setups.specs.Search.{Lowest}

-- where the code finds the value of a literal's variable: the definitions' `place` of every literal that there can be, and a place for
-- any other byte too
abbrev pub slot : ℕ → ℕ
slot b = value_place (b % negated)

-- of 2, of −64, and of the byte 0, which is no literal
example_slot : (slot 2 ≡ 1) × (slot 192 ≡ 63) × (slot 0 ≡ 63)
example_slot = (refl, refl, refl)

-- n free variables, and zeros in the places that no variable has
abbrev pub opening : ℕ → List ℕ
opening n = replicate n 2 ++ replicate (variables_most - n) 0

-- of two variables the second is free, and the third place is 0
example_opening : (get_or (opening 2) 1 0 ≡ 2) × (get_or (opening 2) 2 0 ≡ 0)
example_opening = (refl, refl)

-- every value is 0 or 1
abbrev pub AllSet : List ℕ → Type 0
AllSet values = (i : ℕ) → get_or values i 0 < 2

-- the lowest free variable; or that none is free
abbrev pub TellsFree : List ℕ → Option Variable → Type 0
TellsFree values (Some variable) = (i : ℕ) × (variable.0 ≡ suc i) × Lowest values i
TellsFree values None = AllSet values

-- variable 1 is 0: the lowest that is free is variable 2
example_free : TellsFree (0 ∷ 2 ∷ []) (Some (record { 0 = 2 }))
example_free = (1, refl, record { inside = lit< tt; free = lit< tt; lowest = λ j l. rw (let e : j ≡ 0 = omega arith in e) (lit< tt) })
