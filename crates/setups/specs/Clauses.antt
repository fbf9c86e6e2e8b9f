-- Clauses in a byte buffer, and their truth under an assignment (document 01, "Setups").
use Rattle.std.specs.Prelude.{◌≡◌, refl, Bool, true, false, cond, ◌&&◌, ◌||◌, List, [], ◌∷◌, ℕ, zero, suc, ◌-◌, ◌%◌, ◌≤◌, ◌<◌, eqb, ltb, length, get_or}

-- a literal put in front of the first clause; literals that no 0 follows are in no clause
abbrev pub push : ℕ → List (List ℕ) → List (List ℕ)
push b [] = []
push b (clause ∷ rest) = (b ∷ clause) ∷ rest

-- the clauses of a buffer: each byte 0 ends one
abbrev pub clauses : List ℕ → List (List ℕ)
clauses [] = []
clauses (zero ∷ bytes) = [] ∷ clauses bytes
clauses (suc b ∷ bytes) = push (suc b) (clauses bytes)

-- (1 −2) and the empty clause; the last 3 has no end
example_clauses : clauses (1 ∷ 130 ∷ 0 ∷ 0 ∷ 3 ∷ []) ≡ (1 ∷ 130 ∷ []) ∷ [] ∷ []
example_clauses = refl

-- An assignment of n variables is a list of n values, each 0 or 1: the value of variable v stands at place v − 1.
pub record Assigns (n : ℕ) (m : List ℕ) : Type 0 where
  pub size : length m ≡ n
  pub bits : (i : ℕ) → i < n → get_or m i 0 ≤ 1

-- the byte is v or 128 + v, with v from 1 up to n: a literal of n variables
pub record LiteralOf (n b : ℕ) : Type 0 where
  pub some : 0 < b % 128
  pub most : b % 128 ≤ n

-- where the value of a literal's variable stands: for v, and for 128 + v, at v − 1
abbrev pub place : ℕ → ℕ
place b = b % 128 - 1

-- the value that makes a literal true: 1 for v, 0 for 128 + v
abbrev pub wish : ℕ → ℕ
wish b = cond (ltb b 128) 1 0

-- a literal is true where its variable has that value; a place outside the assignment counts as 0
abbrev pub literal_true : List ℕ → ℕ → Bool
literal_true m b = eqb (get_or m (place b) 0) (wish b)

-- a clause passes a test of literals where one of its literals does: the empty clause never
abbrev pub passes : (ℕ → Bool) → List ℕ → Bool
passes test [] = false
passes test (b ∷ clause) = test b || passes test clause

-- every clause passes
abbrev pub all_pass : (ℕ → Bool) → List (List ℕ) → Bool
all_pass test [] = true
all_pass test (clause ∷ rest) = passes test clause && all_pass test rest

-- a clause is true where one of its literals is
abbrev pub clause_true : List ℕ → List ℕ → Bool
clause_true m clause = passes (literal_true m) clause

-- every clause is true
abbrev pub all_true : List ℕ → List (List ℕ) → Bool
all_true m cs = all_pass (literal_true m) cs

-- with variable 1 at 1 and variable 2 at 0: (−1 −2) is true, (−1 2) and the empty clause are not
example_true :
    (all_true (1 ∷ 0 ∷ []) ((129 ∷ 130 ∷ []) ∷ []) ≡ true) × (all_true (1 ∷ 0 ∷ []) ((129 ∷ 2 ∷ []) ∷ []) ≡ false)
    × (clause_true (1 ∷ 0 ∷ []) [] ≡ false)
example_true = (refl, refl, refl)
