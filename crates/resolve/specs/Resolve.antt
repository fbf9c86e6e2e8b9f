-- What the program puts out for a text, for all texts (document 01, "The program's lines").
use Rattle.std.specs.Prelude.{◌≡◌, refl, cond, List, [], ◌∷◌, ℕ, ◌+◌, eqb, take, replicate}
use Rattle.setups.specs.Limits.{hard_bytes_most, soft_bytes_most, sets_most}
use Rattle.setups.specs.Setups.{Setup, setup, count}
use Rattle.setups.specs.Refusals.{finished, unmet}
use Rattle.setups.specs.List.{ListGives}
use Rattle.setups.specs.GivenOut.{ListResult, listed_sets}
use Rattle.setups.specs.Turn.{TurnGives}
use Rattle.read.specs.Read.{ReadResult, read_result}
use Rattle.lines.specs.Lines.{answer_lines, refusal_lines, Puts}

-- "It lends 8,192, 2,048 and twice 1,024 places, and a scratch of 1,025"
abbrev pub places : ℕ → List ℕ
places n = replicate n 0

abbrev pub scratch_places : ℕ
scratch_places = sets_most + 1

-- what Read gives back
abbrev pub reading : List ℕ → ReadResult
reading text = read_result text (places hard_bytes_most) (places soft_bytes_most)

-- the setup that Read has filled the places with
abbrev pub setup_read : ReadResult → Setup
setup_read r = setup r.count (take r.hard_filled r.hard) (take r.soft_filled r.soft)

-- after Turn's answer
abbrev pub turned_lines : List ℕ → ListResult → List ℕ
turned_lines ways turned =
    cond (eqb turned.number finished) (answer_lines finished ways (listed_sets turned)) (refusal_lines turned.number)

-- after List's answer and Turn's; under Unmet the empty set is the only clash
abbrev pub listed_lines : ListResult → ListResult → List ℕ
listed_lines found turned =
    cond (eqb found.number finished) (turned_lines (listed_sets found) turned)
    (cond (eqb found.number unmet) (answer_lines unmet [] (0 ∷ [])) (refusal_lines found.number))

-- TooMany from Turn puts out the last line alone, whatever List has listed; Unmet puts out the empty clash
example_lines :
    (turned_lines (3 ∷ 5 ∷ []) (record { number = 8; filled = 0; list = []; scratch = [] }) ≡ refusal_lines 8)
    × ((turned : ListResult) → listed_lines (record { number = 128; filled = 0; list = []; scratch = [] }) turned ≡ answer_lines 128 [] (0 ∷ []))
example_lines = (refl, λ turned. refl)

-- `lines` answer the setup g: List gives `found`, and Turn, over its list and its scratch, gives `turned`
pub record Answers (g : Setup) (lines : List ℕ) : Type 0 where
  pub found : ListResult
  pub lists : ListGives g.variables g.hard g.soft (places sets_most) (places scratch_places) found
  pub turned : ListResult
  pub turns : TurnGives (count g) (listed_sets found) (places sets_most) found.scratch turned
  pub says : lines ≡ listed_lines found turned

-- `lines` are what is put out for the text: "the first refusal number that Read, List or Turn gives"
pub record Resolves (text lines : List ℕ) : Type 0 where
  pub answer : List ℕ
  pub answers : Answers (setup_read (reading text)) answer
  pub says : lines ≡ cond (eqb (reading text).number finished) answer (refusal_lines (reading text).number)

-- a function's promise: it puts out lines that are so
abbrev pub PutsOut : (List ℕ → Type 0) → List ℕ → ℕ → List ℕ → Type 0
PutsOut Are output filled after = (lines : List ℕ) × Are lines × Puts lines output filled after
