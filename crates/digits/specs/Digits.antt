-- Bytes as pairs of hexadecimal digits (document 01, "Lines of hexadecimal": "pairs of digits 0-9 and A-F").
use Rattle.std.specs.Prelude.{◌≡◌, refl, Bool, false, cond, ◌&&◌, ◌||◌, List, [], ◌∷◌, ℕ, zero, suc, ◌+◌, ◌-◌, ◌*◌, ◌/◌, ◌%◌, ◌^◌, leb, ltb}

unfoldable pub between : ℕ → ℕ → ℕ → Bool
between low high c = leb low c && leb c high

-- the digits in ASCII: 0 to 9 are 48 to 57, A to F are 65 to 70
abbrev pub numeral : ℕ → Bool
numeral c = between 48 57 c

abbrev pub letter : ℕ → Bool
letter c = between 65 70 c

abbrev pub is_digit : ℕ → Bool
is_digit c = numeral c || letter c

-- a digit's value; 0 for a byte that is no digit
abbrev pub digit_value : ℕ → ℕ
digit_value c = cond (numeral c) (c - 48) (cond (letter c) (c - 55) 0)

-- the digit of a value below 16
unfoldable pub digit_of : ℕ → ℕ
digit_of v = cond (ltb v 10) (v + 48) (v + 55)

-- the byte of two digits, the high one first
abbrev pub byte_of : ℕ → ℕ → ℕ
byte_of c d = digit_value c * 16 + digit_value d

-- the two digits of each byte
abbrev pub digits : List ℕ → List ℕ
digits [] = []
digits (b ∷ bytes) = digit_of (b / 16) ∷ digit_of (b % 16) ∷ digits bytes

-- a number in `size` bytes, the high byte first
abbrev pub bytes_of : ℕ → ℕ → List ℕ
bytes_of zero n = []
bytes_of (suc size) n = n / 256 ^ size % 256 ∷ bytes_of size n

-- 1F is the byte 31, and g is no digit; the set 10 in four bytes is 0000000A
example_digits : (byte_of 49 70 ≡ 31) × (digits (31 ∷ []) ≡ 49 ∷ 70 ∷ []) × (is_digit 103 ≡ false) × (digits (bytes_of 4 10) ≡ 48 ∷ 48 ∷ 48 ∷ 48 ∷ 48 ∷ 48 ∷ 48 ∷ 65 ∷ [])
unfolding between digit_of
example_digits = (refl, refl, refl, refl)
