-- A refusal is known by its number, and no refusal has the number of a finished job.
use mathlib.Core.Path.{◌≡◌, refl, sym, ap, ◌∙◌}
use mathlib.Core.Logic.{◌≢◌}
use mathlib.Core.Bool.{Bool, true, false}
use mathlib.Core.List.{List, [], ◌∷◌}
use Prim.Native.Nat.{ℕ, ◌-◌, ◌≤◌, ◌<◌}
use native.Mathlib.Omega.{arith}
use lib.ListN.{get_or}
use Rattle.setups.specs.declared.Refusal.{Refusal}
use Rattle.setups.specs.declared.Refusal.TheVariants.{Vars, Size, Work, Literal, Tail, Long, Softs, TooMany, List as NotAList, Spent, Frame, Room}
use Rattle.setups.specs.Refusals.{number_of, finished, unmet, no_model, check}

-- the refusals in the order of their numbers
refusals : List Refusal
refusals = Vars ∷ Size ∷ Work ∷ Literal ∷ Tail ∷ Long ∷ Softs ∷ TooMany ∷ NotAList ∷ Spent ∷ Frame ∷ Room ∷ []

numbered : ℕ → Refusal
numbered n = get_or refusals (n - 1) Vars

found_again : (refusal : Refusal) → numbered (number_of refusal) ≡ refusal
unfolding numbered refusals
found_again Vars = refl
found_again Size = refl
found_again Work = refl
found_again Literal = refl
found_again Tail = refl
found_again Long = refl
found_again Softs = refl
found_again TooMany = refl
found_again NotAList = refl
found_again Spent = refl
found_again Frame = refl
found_again Room = refl

-- no two refusals have the same number
pub number_only : (a b : Refusal) → number_of a ≡ number_of b → a ≡ b
number_only a b e = sym (found_again a) ∙ ap numbered e ∙ found_again b

-- each has a number from 1 to 12
number_range : (refusal : Refusal) → (0 < number_of refusal) × (number_of refusal ≤ 12)
number_range Vars = omega arith
number_range Size = omega arith
number_range Work = omega arith
number_range Literal = omega arith
number_range Tail = omega arith
number_range Long = omega arith
number_range Softs = omega arith
number_range TooMany = omega arith
number_range NotAList = omega arith
number_range Spent = omega arith
number_range Frame = omega arith
number_range Room = omega arith

-- so none has the number of a finished job
pub refused_number : (refusal : Refusal) → number_of refusal ≢ finished
refused_number refusal e = omega (arith, number_range refusal)

-- nor that of Unmet
pub refused_not_unmet : (refusal : Refusal) → number_of refusal ≢ unmet
refused_not_unmet refusal e = omega (arith, number_range refusal)

-- nor that of None
pub refused_not_none : (refusal : Refusal) → number_of refusal ≢ no_model
refused_not_none refusal e = omega (arith, number_range refusal)

-- ---- checks in a row

-- where none is given the test has failed
pub check_none : (test : Bool) (refusal : Refusal) (rest : ℕ) → check test refusal rest ≡ 0 → (test ≡ false) × (rest ≡ 0)
check_none true refusal rest e = absurd (refused_number refusal e)
check_none false refusal rest e = (refl, e)

-- what is given is not above the highest number among them
pub check_most : (most : ℕ) (test : Bool) (refusal : Refusal) (rest : ℕ) → number_of refusal ≤ most → rest ≤ most → check test refusal rest ≤ most
check_most most true refusal rest a b = a
check_most most false refusal rest a b = b
