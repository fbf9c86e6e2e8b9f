-- The line of a frame, stored.
use mathlib.Core.Path.{◌≡◌, refl}
use mathlib.Core.List.{List, [], ◌∷◌}
use Prim.Native.Nat.{ℕ, ◌+◌, ◌*◌}
use native.Mathlib.Numerals.{add-two}
use native.Mathlib.Omega.{arith}
use lib.ListN.{length, set}
use lib.Seq.{sets}
use Rattle.digits.specs.Digits.{digits}
use Rattle.digits.proofs.Stores.{sets_append}
use Rattle.frames.specs.Frames.{line_feed, line}

-- a byte takes two digits
pub length_digits : (bytes : List ℕ) → length (digits bytes) ≡ 2 * length bytes
length_digits [] = refl
length_digits (b ∷ bytes) = omega (arith, length_digits bytes)

-- the kind's digits, those of the bytes and LF, one after the other
pub frame_stored : (kind at : ℕ) (bytes t t₁ t₂ : List ℕ) → t₁ ≡ sets t at (digits (kind ∷ [])) → t₂ ≡ sets t₁ (at + 2) (digits bytes)
    → set t₂ (at + 2 * length bytes + 2) line_feed ≡ sets t at (line (kind ∷ bytes))
frame_stored kind at bytes t t₁ t₂ e f =
    let last : at + 2 * length bytes + 2 ≡ at + length (digits (kind ∷ bytes)) = omega (arith, length_digits bytes) in
    rw (last, f, e, add-two, sets_append t (digits (kind ∷ bytes)) (line_feed ∷ []) at)
