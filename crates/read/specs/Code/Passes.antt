-- What the pass that checks a text tells of it, and what the pass that fills the buffers needs.
use Rattle.std.specs.Prelude.{◌≡◌, refl, List, [], ◌∷◌, ◌++◌, ℕ, ◌≤◌, length, Result, Ok, Err}
use Rattle.digits.specs.Digits.{between, digit_of}
use Rattle.frames.specs.Frames.{line}
use Rattle.read.specs.declared.ReadSetup.{ReadSetup}
use Rattle.read.specs.declared.BadLine.{BadLine}
use Rattle.read.specs.Texts.{Text, good, bad, judge, hard_of, soft_of}

-- a text in numbers: the variable count and how many bytes each buffer has to hold, or the first bad line
abbrev pub checked : Text → Result ReadSetup BadLine
checked (good count h s) = Ok (record { count = count; hard_filled = length h; soft_filled = length s })
checked (bad n) = Err (record { line = n })

-- a setup of one variable with the soft clause (−1) fills no hard place and two soft ones; a bad line is told by its number
example_checked : (checked (good 1 [] (129 ∷ 0 ∷ [])) ≡ Ok (record { count = 1; hard_filled = 0; soft_filled = 2 })) × (checked (bad 9) ≡ Err (record { line = 9 }))
example_checked = (refl, refl)

-- 1001, 2081 and FF are good at the end of their 13 bytes, and fill two hard places; before a 14th byte, or a second FF, the fourth
-- line is bad; without FF the third is
example_after_end :
    let begun : List ℕ = line (0x10 ∷ 0x01 ∷ []) ++ line (0x20 ∷ 0x81 ∷ []) in
    let whole : List ℕ = begun ++ line (0xFF ∷ []) in
    (length whole ≡ 13) × (checked (judge begun) ≡ Err (record { line = 3 })) × (checked (judge whole) ≡ Ok (record { count = 1; hard_filled = 2; soft_filled = 0 }))
    × (checked (judge (whole ++ 48 ∷ [])) ≡ Err (record { line = 4 })) × (checked (judge (whole ++ line (0xFF ∷ []))) ≡ Err (record { line = 4 }))
unfolding between digit_of judge
example_after_end = (refl, refl, refl, refl, refl)

-- 2081 brings the clause (−1) for the hard buffer, and nothing for the soft one
example_bytes :
    let text : List ℕ = line (0x10 ∷ 0x01 ∷ []) ++ line (0x20 ∷ 0x81 ∷ []) ++ line (0xFF ∷ []) in
    (hard_of (judge text) ≡ 129 ∷ 0 ∷ []) × (soft_of (judge text) ≡ [])
unfolding between digit_of judge
example_bytes = (refl, refl)

-- a good text, and two buffers that hold what it says
pub record Held (text hard_buffer soft_buffer : List ℕ) : Type 0 where
  pub count : ℕ
  pub h : List ℕ
  pub s : List ℕ
  pub says : judge text ≡ good count h s
  pub hard_room : length h ≤ length hard_buffer
  pub soft_room : length s ≤ length soft_buffer
