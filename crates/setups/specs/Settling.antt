-- Settling forced values (document 01, "One ask"): one step as it is said there, in any order; runs of steps; where they end.
use Rattle.std.specs.Prelude.{◌≡◌, refl, ◌⊎◌, Bool, true, false, not, ◌&&◌, ◌||◌, List, [], ◌∷◌, ℕ, T, ltb, get_or, set}
use Rattle.sets.specs.Lists.{Among}
use Rattle.setups.specs.Clauses.{place, wish, literal_true}

-- A variable's value is 0 or 1, or 2 where the variable is still free.
abbrev pub is_free : List ℕ → ℕ → Bool
is_free values b = ltb 1 (get_or values (place b) 0)

abbrev pub is_false : List ℕ → ℕ → Bool
is_false values b = not (is_free values b) && not (literal_true values b)

-- every literal of the clause is false: of the empty clause, always
abbrev pub all_false : List ℕ → List ℕ → Bool
all_false values [] = true
all_false values (b ∷ clause) = is_false values b && all_false values clause

-- some clause is wholly false
abbrev pub broken : List ℕ → List (List ℕ) → Bool
broken values [] = false
broken values (clause ∷ rest) = all_false values clause || broken values rest

-- the clause has no true literal and exactly one free literal, b, which may stand there more than once
pub record Forces (values clause : List ℕ) (b : ℕ) : Type 0 where
  pub stands : Among b clause
  pub free : T (is_free values b)
  pub others : (l : ℕ) → Among l clause → (l ≡ b) ⊎ T (is_false values l)

-- the values with the literal made true
abbrev pub put : List ℕ → ℕ → List ℕ
put values b = set values (place b) (wish b)

-- under 1, free: (−1 2 2) forces 2, which sets variable 2 to 1
example_put : put (1 ∷ 2 ∷ []) 2 ≡ 1 ∷ 1 ∷ []
example_put = refl

-- some clause makes its one free literal true
pub record Forced (cs : List (List ℕ)) (values next : List ℕ) : Type 0 where
  pub clause : List ℕ
  pub among : Among clause cs
  pub literal : ℕ
  pub forces : Forces values clause literal
  pub sets : next ≡ put values literal

-- one step: while no clause is wholly false, some clause makes its one free literal true
pub record Step (cs : List (List ℕ)) (values next : List ℕ) : Type 0 where
  pub whole : ¬ T (broken values cs)
  pub forced : Forced cs values next

-- any number of steps, in any order
pub data Steps (cs : List (List ℕ)) : List ℕ → List ℕ → Type 0 where
  no_step : {values : List ℕ} → Steps cs values values
  step_on : {values next end : List ℕ} → Step cs values next → Steps cs next end → Steps cs values end

-- steps as long as there is one
pub record Settles (cs : List (List ℕ)) (values end : List ℕ) : Type 0 where
  pub steps : Steps cs values end
  pub stuck : (next : List ℕ) → ¬ Step cs end next
