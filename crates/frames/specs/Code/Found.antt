-- What the reader's steps find in a text: bytes in pairs of digits, and at a place of the text its frame, in numbers.
use Rattle.std.specs.Prelude.{◌≡◌, refl, cond, ◌&&◌, List, [], ◌∷◌, ℕ, zero, suc, ◌+◌, ◌*◌, length, get_or, drop, Option, Some, None}
use Rattle.std.specs.Option.{option_map}
use Rattle.digits.specs.Digits.{between, is_digit, byte_of}
use Rattle.frames.specs.declared.frames.Frame.{Frame as ToldFrame}
use Rattle.frames.specs.declared.frames.Frame.TheVariants.{Header, Hard, Soft, End}
use Rattle.frames.specs.declared.frames.Found.{Found}
use Rattle.frames.specs.Frames.{lines, Frame, header, hard, soft, end, no_frame, frame, frame_bytes}

-- how many pairs of digits the text begins with
abbrev pub pairs : List ℕ → ℕ
pairs [] = 0
pairs (c ∷ []) = 0
pairs (c ∷ d ∷ text) = cond (is_digit c && is_digit d) (suc (pairs text)) 0

-- the bytes of the first n pairs
abbrev pub bytes_from : ℕ → List ℕ → List ℕ
bytes_from zero text = []
bytes_from (suc n) text = byte_of (get_or text 0 0) (get_or text 1 0) ∷ bytes_from n (drop 2 text)

-- 1F2 begins with one pair, the byte 31
example_pairs : (pairs (49 ∷ 70 ∷ 50 ∷ []) ≡ 1) × (bytes_from 1 (49 ∷ 70 ∷ 50 ∷ []) ≡ 31 ∷ [])
unfolding between
example_pairs = (refl, refl)

-- the place after a frame's line: two digits a byte, and LF
abbrev pub place_after : ℕ → Frame → ℕ
place_after at f = at + (2 * length (frame_bytes f) + 1)

-- a frame in the code's form: the variable count, or how many literals there are
abbrev pub told_frame : Frame → Option ToldFrame
told_frame (header count) = Some (Header count)
told_frame (hard literals) = Some (Hard (length literals))
told_frame (soft literals) = Some (Soft (length literals))
told_frame end = Some End
told_frame no_frame = None

-- a frame at a place of the text, with the place after its line
abbrev pub found : ℕ → Frame → Option Found
found at f = option_map (λ frame. record { frame = frame; next = place_after at f }) (told_frame f)

-- the frame of the line that begins at `at`
unfoldable pub found_at : List ℕ → ℕ → Option Found
found_at text at = found at (frame (get_or (lines (drop at text)) 0 []))

-- where a reader goes on that found this at `at`: where no frame stands, it stays
abbrev pub next_place : ℕ → Option Found → ℕ
next_place at (Some here) = here.next
next_place at None = at

-- after 2081 and LF, found at 5, the next line begins at 10
example_next : (next_place 5 (found 5 (hard (129 ∷ []))) ≡ 10) × (next_place 5 None ≡ 5)
example_next = (refl, refl)
