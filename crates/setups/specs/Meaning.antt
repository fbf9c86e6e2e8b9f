-- What settling and the search mean (document 01, "One ask"): proofs/Settling.antt and proofs/Models.antt prove what is stated here.
use Rattle.std.specs.Prelude.{◌≡◌, ◌⊎◌, List, [], ◌∷◌, ℕ, ◌<◌, T, get_or}
use Rattle.std.proofs.Common.{inr, arith}
use Rattle.setups.specs.Clauses.{Assigns, all_true}
use Rattle.setups.specs.Settling.{broken}
use Rattle.setups.specs.Search.{SearchResult, Model, None}

-- two ends of settling are alike: in both some clause is wholly false, or in neither and the values are equal
abbrev pub Alike : List (List ℕ) → List ℕ → List ℕ → Type 0
Alike cs s t = (T (broken s cs) × T (broken t cs)) ⊎ (¬ T (broken s cs) × (s ≡ t))

-- `here` is the first place where the assignments differ, and m has the smaller value there
pub record Earlier (m m' : List ℕ) : Type 0 where
  pub here : ℕ
  pub same : (i : ℕ) → i < here → get_or m i 0 ≡ get_or m' i 0
  pub less : get_or m here 0 < get_or m' here 0

-- m is m' or comes before it "in the order of variable 1, then 2, and so on, with 0 before 1"
abbrev pub Before : List ℕ → List ℕ → Type 0
Before m m' = (m ≡ m') ⊎ Earlier m m'

-- 0 1 1 comes before 1 0 0
example_before : Before (0 ∷ 1 ∷ 1 ∷ []) (1 ∷ 0 ∷ 0 ∷ [])
example_before = inr (record { here = 0; same = λ i h. absurd (omega arith); less = omega arith })

-- m is the first of the assignments of n variables that make every clause true
pub record First (n : ℕ) (cs : List (List ℕ)) (m : List ℕ) : Type 0 where
  pub assigns : Assigns n m
  pub holds : T (all_true m cs)
  pub first : (m' : List ℕ) → Assigns n m' → T (all_true m' cs) → Before m m'

-- what a search over n variables finds: the first model; or none, and then there is none
abbrev pub Means : ℕ → List (List ℕ) → SearchResult → Type 0
Means n cs (Model m visits) = First n cs m
Means n cs (None visits) = (m : List ℕ) → Assigns n m → ¬ T (all_true m cs)
