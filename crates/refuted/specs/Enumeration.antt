-- The wrong searches for ways out: Algorithm 1 of document 000, as it stands there, over any answers of its oracle; one that blocks only
-- the found set; and the way down from a candidate to a way out.
use Rattle.std.specs.Prelude.{◌≡◌, refl, ◌≢◌, List, [], ◌∷◌, ℕ, ◌-◌, ◌^◌, ◌<◌}
use Rattle.sets.specs.Sets.{In, Within, Share}
use Rattle.sets.specs.Lists.{Among}
use Rattle.setups.specs.Setups.{Setup, setup, count, Together, Without, WayOut}

-- all the settings, and those outside T
abbrev pub all_settings : Setup → ℕ
all_settings g = 2 ^ count g - 1

abbrev pub rest : Setup → ℕ → ℕ
rest g T = all_settings g - T

-- of two settings 3 is all, and 2 lies outside 1
example_rest : (all_settings (setup 0 [] (0 ∷ 0 ∷ [])) ≡ 3) × (rest (setup 0 [] (0 ∷ 0 ∷ [])) 1 ≡ 2)
example_rest = (refl, refl)

-- ---- Algorithm 1. Sets stand for sets of selectors: A is the candidate for what is kept, B the candidate for what is given up

-- the oracle may answer with a model whose selectors at 1 are T: all of A are, the settings of T are true, and each block has one of T
pub record OracleAnswers (g : Setup) (A : ℕ) (blocks : List ℕ) (T : ℕ) : Type 0 where
  pub below : T < 2 ^ count g
  pub assumed : Within A T
  pub meets : Together g T
  pub blocked : (W : ℕ) → Among W blocks → Share T W

-- the oracle has no answer
abbrev pub Fails : Setup → ℕ → List ℕ → Type 0
Fails g A blocks = (T : ℕ) → ¬ OracleAnswers g A blocks T

-- a run from A, B and the blocks, with all that it gives out: lines 6 to 10, line 12, and lines 14 and 15
pub data Run (g : Setup) : ℕ → ℕ → List ℕ → List ℕ → Type 0 where
  finds : {A B T : ℕ} {blocks out : List ℕ} → OracleAnswers g A blocks T → Run g T (rest g T) (rest g T ∷ blocks) out → Run g A B blocks out
  returns : {A B : ℕ} {blocks : List ℕ} → Fails g A blocks → A ≡ 0 → Run g A B blocks []
  outputs : {A B : ℕ} {blocks out : List ℕ} → Fails g A blocks → A ≢ 0 → Run g 0 B blocks out → Run g A B blocks (B ∷ out)

-- the whole of it, from lines 3 and 4
abbrev pub Enumerates : Setup → List ℕ → Type 0
Enumerates g out = Run g 0 0 [] out

-- ---- candidates

-- a set of the settings that can be given up
pub record Candidate (g : Setup) (S : ℕ) : Type 0 where
  pub below : S < 2 ^ count g
  pub meets : Without g S

-- a run that blocks only the set it has found, and not the supersets: while some candidate is not blocked, any one such is given out.
-- P6: 3, 2, 1 (`example_found_only`)
pub data FoundOnly (g : Setup) : List ℕ → List ℕ → Type 0 where
  gives : {S : ℕ} {blocks out : List ℕ} → Candidate g S → ¬ Among S blocks → FoundOnly g (S ∷ blocks) out → FoundOnly g blocks (S ∷ out)
  stops : {blocks : List ℕ} → ((S : ℕ) → Candidate g S → Among S blocks) → FoundOnly g blocks []

-- a way down: candidates, each the one before it without one setting, and the last a way out. With soft (1), (2): 3, 1, 0
-- (`example_way_down`)
abbrev pub WayDown : Setup → List ℕ → Type 0
WayDown g [] = ⊥
WayDown g (S ∷ []) = WayOut g S
WayDown g (S ∷ R ∷ down) = Candidate g S × ((i : ℕ) × In i S × (R ≡ S - 2 ^ i)) × WayDown g (R ∷ down)
