-- The search of an ask and its visits, in the words of document 01, "One ask". Searching.antt has the same as it computes.
use Rattle.std.specs.Prelude.{List, [], ℕ, ◌+◌, ◌≤◌, ◌<◌, T, length, get_or, set}
use Rattle.std.proofs.Common.{arith}
use Rattle.setups.specs.Settling.{broken, Settles, no_step}

-- what a search gives: a model or none, and how many visits it took
pub data SearchResult : Type 0 where
  Model : List ℕ → ℕ → SearchResult
  None : ℕ → SearchResult

-- how many visits a search took
abbrev pub visits_of : SearchResult → ℕ
visits_of (Model m visits) = visits
visits_of (None visits) = visits

-- with so many visits more
abbrev pub after : ℕ → SearchResult → SearchResult
after k (Model m visits) = Model m (k + visits)
after k (None visits) = None (k + visits)

-- i is the place of the lowest free variable
pub record Lowest (values : List ℕ) (i : ℕ) : Type 0 where
  pub inside : i < length values
  pub free : 2 ≤ get_or values i 0
  pub lowest : (j : ℕ) → j < i → get_or values j 0 < 2

-- A visit settles forced values, in any order. It fails where a clause is wholly false, and has a model where no variable is free.
-- Otherwise the split on the lowest free variable opens a visit with the value 0 and, if that side fails, one with the value 1.
-- Every visit counts one.
pub data Visit (cs : List (List ℕ)) : List ℕ → SearchResult → Type 0 where
  visit_fails : {values end : List ℕ} → Settles cs values end → T (broken end cs) → Visit cs values (None 1)
  visit_models : {values end : List ℕ} → Settles cs values end → ¬ T (broken end cs) → ((i : ℕ) → get_or end i 0 < 2)
      → Visit cs values (Model end 1)
  split_low : {values end m : List ℕ} {i visits : ℕ} → Settles cs values end → ¬ T (broken end cs) → Lowest end i
      → Visit cs (set end i 0) (Model m visits) → Visit cs values (Model m (1 + visits))
  split_high : {values end : List ℕ} {i visits : ℕ} {r : SearchResult} → Settles cs values end → ¬ T (broken end cs) → Lowest end i
      → Visit cs (set end i 0) (None visits) → Visit cs (set end i 1) r → Visit cs values (after (1 + visits) r)

-- no variable and no clause: the first visit has a model
example_visit : Visit [] [] (Model [] 1)
example_visit = visit_models {values = []} {end = []} (record { steps = no_step; stuck = λ next step. step.forced.among }) (λ b. b) (λ i. omega arith)
