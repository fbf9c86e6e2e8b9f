-- Setups, their ways out and their clashes (document 01, "Setups" and "Ways out and clashes").
use Rattle.std.specs.Prelude.{◌≡◌, refl, ◌≢◌, List, [], ◌∷◌, ℕ, ◌-◌, ◌^◌, ◌<◌, T, length, get_or}
use Rattle.sets.specs.Sets.{In, Within}
use Rattle.setups.specs.Clauses.{clauses, Assigns, all_true}

-- a variable count and two clause buffers
pub record Setup : Type 0 where
  pub variables : ℕ
  pub hard : List ℕ
  pub soft : List ℕ

abbrev pub setup : ℕ → List ℕ → List ℕ → Setup
setup n hard soft = record { variables = n; hard = hard; soft = soft }

-- A setting is a list of clauses that are kept or given up together: here each soft clause is a setting of its own.
abbrev pub apiece : List (List ℕ) → List (List (List ℕ))
apiece [] = []
apiece (clause ∷ rest) = (clause ∷ []) ∷ apiece rest

-- the settings of a soft buffer, in its order; two with equal literals are two settings
abbrev pub settings : List ℕ → List (List (List ℕ))
settings soft = apiece (clauses soft)

-- how many settings a setup has
abbrev pub count : Setup → ℕ
count g = length (settings g.soft)

-- the setting at place i is true
abbrev pub SettingTrue : Setup → List ℕ → ℕ → Type 0
SettingTrue g m i = T (all_true m (get_or (settings g.soft) i []))

-- m assigns every variable, and makes the hard clauses and every kept setting true
pub record Models (g : Setup) (Kept : ℕ → Type 0) (m : List ℕ) : Type 0 where
  pub assigns : Assigns g.variables m
  pub hard : T (all_true m (clauses g.hard))
  pub kept : (i : ℕ) → i < count g → Kept i → SettingTrue g m i

-- the hard clauses and the kept settings have a common model
abbrev pub Meetable : Setup → (ℕ → Type 0) → Type 0
Meetable g Kept = (m : List ℕ) × Models g Kept m

-- the hard clauses and the settings of C have a common model
abbrev pub Together : Setup → ℕ → Type 0
Together g C = Meetable g (λ i. In i C)

-- the hard clauses and all settings outside S have a common model
abbrev pub Without : Setup → ℕ → Type 0
Without g S = Meetable g (λ i. ¬ In i S)

-- S can be given up, and putting back any one of its settings leaves no model
pub record WayOut (g : Setup) (S : ℕ) : Type 0 where
  pub below : S < 2 ^ count g
  pub meets : Without g S
  pub tight : (i : ℕ) → In i S → ¬ Without g (S - 2 ^ i)

-- C has no model together with the hard clauses, while each of its proper subsets has one
pub record Clash (g : Setup) (C : ℕ) : Type 0 where
  pub below : C < 2 ^ count g
  pub fails : ¬ Together g C
  pub parts : (R : ℕ) → Within R C → R ≢ C → Together g R

-- hard (−1), soft (1), (1): both settings are given up together (way out 3), each of them is a clash (1, 2); crate `table` has it as P5
example_setup : count (setup 1 (129 ∷ 0 ∷ []) (1 ∷ 0 ∷ 1 ∷ 0 ∷ [])) ≡ 2
example_setup = refl
