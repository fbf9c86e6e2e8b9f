-- Lines and the frames that stand in them (document 01, "Lines of hexadecimal": "One frame a line").
use Rattle.std.specs.Prelude.{◌≡◌, refl, cond, ◌&&◌, List, [], ◌∷◌, ◌++◌, ℕ, eqb, ltb, leb, length}
use Rattle.std.proofs.Math.Option.{Option, none, some, map}
use Rattle.sets.specs.Tests.{all}
use Rattle.digits.specs.Digits.{between, is_digit, digit_of, byte_of, digits}

-- LF
abbrev pub line_feed : ℕ
line_feed = 10

-- ---- lines: each LF ends one and belongs to it; a last line may lack its LF

-- a character put in front of the first line
abbrev pub ahead : ℕ → List (List ℕ) → List (List ℕ)
ahead c [] = (c ∷ []) ∷ []
ahead c (first ∷ rest) = (c ∷ first) ∷ rest

abbrev pub lines : List ℕ → List (List ℕ)
lines [] = []
lines (c ∷ text) = cond (eqb c line_feed) ((c ∷ []) ∷ lines text) (ahead c (lines text))

-- the line of some bytes
abbrev pub line : List ℕ → List ℕ
line bytes = digits bytes ++ line_feed ∷ []

-- the bytes of a line: pairs of digits and one LF
abbrev pub line_bytes : List ℕ → Option (List ℕ)
line_bytes [] = none
line_bytes (c ∷ []) = cond (eqb c line_feed) (some []) none
line_bytes (c ∷ d ∷ rest) = cond (is_digit c && is_digit d) (map (λ (bytes : List ℕ). byte_of c d ∷ bytes) (line_bytes rest)) none

-- ---- frames

-- "First byte: 10 header, [..] 20 hard clause, 30 soft clause, [..] FF end"
abbrev pub header_kind : ℕ
header_kind = 0x10

abbrev pub hard_kind : ℕ
hard_kind = 0x20

abbrev pub soft_kind : ℕ
soft_kind = 0x30

abbrev pub end_kind : ℕ
end_kind = 0xFF

-- "at most 128 bytes (256 digits)"
abbrev pub frame_most : ℕ
frame_most = 128

-- a header with its variable count, a clause with its literal bytes, the end; a line that is none of these
pub data Frame : Type 0 where
  header : ℕ → Frame
  hard : List ℕ → Frame
  soft : List ℕ → Frame
  end : Frame
  no_frame : Frame

abbrev pub header_of : List ℕ → Frame
header_of [] = no_frame
header_of (count ∷ []) = header count
header_of (count ∷ b ∷ rest) = no_frame

-- a literal byte 00 is refused
abbrev pub clause_of : (List ℕ → Frame) → List ℕ → Frame
clause_of kind literals = cond (all (ltb 0) literals) (kind literals) no_frame

abbrev pub end_of : List ℕ → Frame
end_of [] = end
end_of (b ∷ rest) = no_frame

abbrev pub frame_of : List ℕ → Frame
frame_of [] = no_frame
frame_of (kind ∷ rest) =
    cond (eqb kind header_kind) (header_of rest)
    (cond (eqb kind hard_kind) (clause_of hard rest)
    (cond (eqb kind soft_kind) (clause_of soft rest)
    (cond (eqb kind end_kind) (end_of rest) no_frame)))

abbrev pub framed : Option (List ℕ) → Frame
framed none = no_frame
framed (some bytes) = cond (leb (length bytes) frame_most) (frame_of bytes) no_frame

-- the frame of a line
abbrev pub frame : List ℕ → Frame
frame one = framed (line_bytes one)

-- the bytes of a frame
abbrev pub frame_bytes : Frame → List ℕ
frame_bytes (header count) = header_kind ∷ count ∷ []
frame_bytes (hard literals) = hard_kind ∷ literals
frame_bytes (soft literals) = soft_kind ∷ literals
frame_bytes end = end_kind ∷ []
frame_bytes no_frame = []

-- 2081 and LF is the hard clause (−1); without its LF, or with a literal 00, a line is no frame
example_frame : (frame (line (0x20 ∷ 0x81 ∷ [])) ≡ hard (129 ∷ [])) × (frame (digits (0x20 ∷ 0x81 ∷ [])) ≡ no_frame) × (frame (line (0x20 ∷ 0x00 ∷ [])) ≡ no_frame)
unfolding between digit_of
example_frame = (refl, refl, refl)
