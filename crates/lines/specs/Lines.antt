-- The lines that are put out (document 01, "The program's lines").
use Rattle.std.specs.Prelude.{◌≡◌, refl, List, [], ◌∷◌, ◌++◌, ℕ, ◌+◌, ◌*◌, ◌≤◌, length}
use Rattle.std.proofs.lemmas.List.Edits.{sets}
use Rattle.setups.specs.Limits.{sets_most}
use Rattle.digits.specs.Digits.{bytes_of, digit_of}
use Rattle.frames.specs.Frames.{line}

-- a line's first byte: 40 for a way out, 50 for a clash, 60 for the last line
abbrev pub way_out_kind : ℕ
way_out_kind = 0x40

abbrev pub clash_kind : ℕ
clash_kind = 0x50

abbrev pub last_kind : ℕ
last_kind = 0x60

-- "40 and a set in four bytes, high byte first"
abbrev pub set_line : ℕ → ℕ → List ℕ
set_line kind S = line (kind ∷ bytes_of 4 S)

-- a line for each set
abbrev pub set_lines : ℕ → List ℕ → List ℕ
set_lines kind [] = []
set_lines kind (S ∷ sets) = set_line kind S ++ set_lines kind sets

-- "60, one outcome byte, the two-byte number of ways out, the two-byte number of clashes"
abbrev pub last_line : ℕ → ℕ → ℕ → List ℕ
last_line outcome ways clashes = line (last_kind ∷ outcome ∷ bytes_of 2 ways ++ bytes_of 2 clashes)

-- all lines of an answer
abbrev pub answer_lines : ℕ → List ℕ → List ℕ → List ℕ
answer_lines outcome ways clashes =
    set_lines way_out_kind ways ++ set_lines clash_kind clashes ++ last_line outcome (length ways) (length clashes)

-- "a refusal prints only the line 60 with both counts 0"
abbrev pub refusal_lines : ℕ → List ℕ
refusal_lines number = answer_lines number [] []

-- how long the line of a set is, and the last line
abbrev pub set_line_length : ℕ
set_line_length = 11

abbrev pub last_line_length : ℕ
last_line_length = 13

-- whatever stands in them
example_lengths :
    ((kind S : ℕ) → length (set_line kind S) ≡ set_line_length) × ((outcome ways clashes : ℕ) → length (last_line outcome ways clashes) ≡ last_line_length)
example_lengths = (λ kind S. refl, λ outcome ways clashes. refl)

-- how long the lines of two full lists are
abbrev pub output_most : ℕ
output_most = 2 * sets_most * set_line_length + last_line_length

-- the lines are stored from the output's first place on, `filled` bytes, and the places beyond them stay as they were
pub record Puts (lines output : List ℕ) (filled : ℕ) (after : List ℕ) : Type 0 where
  pub count : filled ≡ length lines
  pub fits : filled ≤ length output
  pub stored : after ≡ sets output 0 lines

-- document 01's last line is 600000030003, its first 4000000005
example_lines :
    (last_line 0 3 3 ≡ 54 ∷ 48 ∷ 48 ∷ 48 ∷ 48 ∷ 48 ∷ 48 ∷ 51 ∷ 48 ∷ 48 ∷ 48 ∷ 51 ∷ 10 ∷ [])
    × (set_line way_out_kind 5 ≡ 52 ∷ 48 ∷ 48 ∷ 48 ∷ 48 ∷ 48 ∷ 48 ∷ 48 ∷ 48 ∷ 53 ∷ 10 ∷ [])
unfolding digit_of
example_lines = (refl, refl)
