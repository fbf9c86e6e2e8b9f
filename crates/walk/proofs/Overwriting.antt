-- Sets written over places.
use mathlib.Core.Path.{◌≡◌, refl, ap}
use mathlib.Core.List.{List, [], ◌∷◌, ◌++◌}
use Prim.Native.Nat.{ℕ, zero, suc, ◌≤◌, ◌<◌}
use native.Mathlib.Nat.{not-suc-le-zero, le_of_suc-le-suc}
use lib.ListN.{length, take, set}
use Rattle.walk.specs.Walking.{over}

-- the places stay as many
pub over_length : (sets places : List ℕ) → length (over sets places) ≡ length places
over_length [] places = refl
over_length (S ∷ sets) [] = refl
over_length (S ∷ sets) (P ∷ places) = ap suc (over_length sets places)

-- where the places are full already, more sets change nothing
pub over_full : (sets more places : List ℕ) → length places ≤ length sets → over (sets ++ more) places ≡ over sets places
over_full [] [] [] l = refl
over_full [] (S ∷ more) [] l = refl
over_full [] more (P ∷ places) l = absurd (not-suc-le-zero l)
over_full (S ∷ sets) more [] l = refl
over_full (S ∷ sets) more (P ∷ places) l = ap (λ (list : List ℕ). S ∷ list) (over_full sets more places (le_of_suc-le-suc l))

-- sets written first are written again with those that follow them
pub over_again : (sets more places : List ℕ) → over (sets ++ more) (over sets places) ≡ over (sets ++ more) places
over_again [] more places = refl
over_again (S ∷ sets) more [] = refl
over_again (S ∷ sets) more (P ∷ places) = ap (λ (list : List ℕ). S ∷ list) (over_again sets more places)

-- one more set is one store
pub over_store : (filled : ℕ) (places : List ℕ) (S : ℕ) → filled < length places → over (take filled places ++ (S ∷ [])) places ≡ set places filled S
over_store filled [] S l = absurd (not-suc-le-zero l)
over_store zero (P ∷ places) S l = refl
over_store (suc filled) (P ∷ places) S l = ap (λ (list : List ℕ). P ∷ list) (over_store filled places S (le_of_suc-le-suc l))

-- where they have room the sets stand first
pub over_take : (sets places : List ℕ) → length sets ≤ length places → take (length sets) (over sets places) ≡ sets
over_take [] places l = refl
over_take (S ∷ sets) [] l = absurd (not-suc-le-zero l)
over_take (S ∷ sets) (P ∷ places) l = ap (λ (list : List ℕ). S ∷ list) (over_take sets places (le_of_suc-le-suc l))
