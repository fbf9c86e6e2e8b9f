-- The text of a setup (document 01: "The writer puts the header, hard clauses, soft clauses and FF. Its length is
-- 2 × literals + 3 × clauses + 8").
use Rattle.std.specs.Prelude.{◌≡◌, refl, List, [], ◌∷◌, ◌++◌, ℕ, ◌+◌, ◌-◌, ◌*◌, ◌<◌, length, get_or, drop}
use Rattle.setups.specs.Limits.{hard_bytes_most, soft_bytes_most, settings_most}
use Rattle.setups.specs.Clauses.{clauses}
use Rattle.digits.specs.Digits.{digit_of}
use Rattle.frames.specs.Frames.{line, header_kind, hard_kind, soft_kind, end_kind}

-- a line for each clause
abbrev pub clause_lines : ℕ → List (List ℕ) → List ℕ
clause_lines kind [] = []
clause_lines kind (clause ∷ rest) = line (kind ∷ clause) ++ clause_lines kind rest

-- of (1), (−2 3) the clause at place 2 is the last, and its line 208203
example_clause :
    let last : List ℕ = drop 2 (1 ∷ 0 ∷ 130 ∷ 3 ∷ 0 ∷ []) in
    (clauses last ≡ (130 ∷ 3 ∷ []) ∷ []) × (clause_lines hard_kind (clauses last) ≡ line (0x20 ∷ 0x82 ∷ 0x03 ∷ []))
example_clause = (refl, refl)

unfoldable pub setup_text : ℕ → List ℕ → List ℕ → List ℕ
setup_text count hard soft =
    line (header_kind ∷ count ∷ []) ++ (clause_lines hard_kind (clauses hard) ++ (clause_lines soft_kind (clauses soft) ++ line (end_kind ∷ [])))

-- how many literals the clauses have
abbrev pub literal_count : List (List ℕ) → ℕ
literal_count [] = 0
literal_count (clause ∷ rest) = length clause + literal_count rest

unfoldable pub text_length : List ℕ → List ℕ → ℕ
text_length hard soft =
    2 * (literal_count (clauses hard) + literal_count (clauses soft)) + 3 * (length (clauses hard) + length (clauses soft)) + 8

-- the most that a setup within its limits can take: hard bytes that are all ends, and soft bytes that have as many ends as there may be settings
abbrev pub setup_text_most : ℕ
setup_text_most = 3 * hard_bytes_most + (2 * (soft_bytes_most - settings_most) + 3 * settings_most) + 8

-- one variable, no hard clause and the soft clause (−1): 1001, 3081, FF
example_written : (setup_text 1 [] (129 ∷ 0 ∷ []) ≡ 49 ∷ 48 ∷ 48 ∷ 49 ∷ 10 ∷ 51 ∷ 48 ∷ 56 ∷ 49 ∷ 10 ∷ 70 ∷ 70 ∷ 10 ∷ []) × (text_length [] (129 ∷ 0 ∷ []) ≡ 13)
unfolding digit_of setup_text text_length
example_written = (refl, refl)

-- every place of the buffer holds a byte
abbrev pub Bytes : List ℕ → Type 0
Bytes buffer = (i : ℕ) → get_or buffer i 0 < 256
