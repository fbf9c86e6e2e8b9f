-- Programs for List and for Turn, as what they give back for all arguments, and what the wrong ones of both jobs have in common.
use Rattle.std.specs.Prelude.{◌≡◌, refl, cond, List, [], ◌∷◌, ℕ, zero, suc, ◌+◌, min, eqb}
use Rattle.sets.specs.Sets.{digit}
use Rattle.setups.specs.declared.Refusal.{Refusal}
use Rattle.setups.specs.Refusals.{number_of, finished}
use Rattle.setups.specs.GivenOut.{ListResult, listed_sets}

-- an input, the list buffer and the scratch give a result: List's input is a setup, Turn's a settings count with a list of sets
abbrev pub Program : Type 0 → Type 0
Program Input = Input → List ℕ → List ℕ → ListResult

-- it refuses everything
abbrev pub RefusesAll : (Input : Type 0) → Program Input → Type 0
RefusesAll Input P = (input : Input) (list scratch : List ℕ) → (r : Refusal) × ((P input list scratch).number ≡ number_of r)

-- it writes no list, whatever it does to the scratch
abbrev pub WritesNothing : (Input : Type 0) → Program Input → Type 0
WritesNothing Input P = (input : Input) (list scratch : List ℕ) → (P input list scratch).list ≡ list

-- what is said of an answer Listed: the input, the list buffer and the scratch before, the number of places filled and the sets that they hold
abbrev pub Claim : Type 0 → Type 1
Claim Input = (input : Input) (list scratch : List ℕ) (filled : ℕ) (listed : List ℕ) → Type 0

-- the claim holds of every answer Listed, whatever else the program refuses or answers
pub record Always {Input : Type 0} (claim : Claim Input) (P : Program Input) : Type 0 where
  pub holds : (input : Input) (list scratch : List ℕ)
      → (let r = P input list scratch in r.number ≡ finished → claim input list scratch r.filled (listed_sets r))

-- how many of the first n settings a set has, the fewest that a set of the list has, and the sets of the list that have so many
abbrev pub size_of : ℕ → ℕ → ℕ
size_of zero S = 0
size_of (suc n) S = digit S n + size_of n S

abbrev pub fewest_of : ℕ → List ℕ → ℕ
fewest_of n [] = n
fewest_of n (S ∷ list) = min (size_of n S) (fewest_of n list)

abbrev pub having : ℕ → ℕ → List ℕ → List ℕ
having n size [] = []
having n size (S ∷ list) = cond (eqb (size_of n S) size) (S ∷ having n size list) (having n size list)

abbrev pub fewest : ℕ → List ℕ → List ℕ
fewest n list = having n (fewest_of n list) list

-- of 1, 5, 6 only 1 has a single setting
example_fewest : fewest 3 (1 ∷ 5 ∷ 6 ∷ []) ≡ 1 ∷ []
example_fewest = refl
