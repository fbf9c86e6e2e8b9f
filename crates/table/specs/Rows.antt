-- What a row of the table says of a setup, and the setups and clauses that several rows or later theorems name, as bytes.
use Rattle.std.specs.Prelude.{◌≡◌, refl, List, [], ◌∷◌, ℕ, ◌+◌}
use Rattle.sets.specs.Lists.{Exactly}
use Rattle.setups.specs.Clauses.{clauses}
use Rattle.setups.specs.Setups.{Setup, Together, WayOut, Clash}

-- the negation of variable v, as a literal byte
abbrev pub neg : ℕ → ℕ
neg v = 128 + v

-- the hard clauses have a model, and these are exactly the ways out and exactly the clashes
pub record Row (g : Setup) (ways clashes : List ℕ) : Type 0 where
  pub met : Together g 0
  pub ways_out : Exactly (WayOut g) ways
  pub clash : Exactly (Clash g) clashes

-- the hard clauses alone have none: no way out, and the empty set the only clash
pub record UnmetRow (g : Setup) : Type 0 where
  pub unmet : ¬ Together g 0
  pub ways_out : Exactly (WayOut g) []
  pub clash : Exactly (Clash g) (0 ∷ [])

-- P4: hard (−1 −2), (−2 −3), (−3 −4); soft (1), (2), (3), (4)
abbrev pub P4-hard : List ℕ
P4-hard = neg 1 ∷ neg 2 ∷ 0 ∷ neg 2 ∷ neg 3 ∷ 0 ∷ neg 3 ∷ neg 4 ∷ 0 ∷ []

abbrev pub P4-soft : List ℕ
P4-soft = 1 ∷ 0 ∷ 2 ∷ 0 ∷ 3 ∷ 0 ∷ 4 ∷ 0 ∷ []

abbrev pub P4-ways : List ℕ
P4-ways = 5 ∷ 6 ∷ 10 ∷ []

example_P4 : clauses P4-hard ≡ (129 ∷ 130 ∷ []) ∷ (130 ∷ 131 ∷ []) ∷ (131 ∷ 132 ∷ []) ∷ []
example_P4 = refl

-- P14: hard (−1 −2), (−1 −3); soft (1), (2), (3)
abbrev pub P14-hard : List ℕ
P14-hard = neg 1 ∷ neg 2 ∷ 0 ∷ neg 1 ∷ neg 3 ∷ 0 ∷ []

abbrev pub P14-soft : List ℕ
P14-soft = 1 ∷ 0 ∷ 2 ∷ 0 ∷ 3 ∷ 0 ∷ []

-- P10: (1 2), (1 −2), (−1 2)
abbrev pub P10-clauses : List ℕ
P10-clauses = 1 ∷ 2 ∷ 0 ∷ 1 ∷ neg 2 ∷ 0 ∷ neg 1 ∷ 2 ∷ 0 ∷ []

-- P11: the same, and (−1 −2)
abbrev pub P11-clauses : List ℕ
P11-clauses = 1 ∷ 2 ∷ 0 ∷ 1 ∷ neg 2 ∷ 0 ∷ neg 1 ∷ 2 ∷ 0 ∷ neg 1 ∷ neg 2 ∷ 0 ∷ []
