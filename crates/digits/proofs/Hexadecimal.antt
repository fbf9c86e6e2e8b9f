-- Digits: which bytes are digits, what a digit's value can be, that each value comes back from its digit, and what std makes of
-- a number's bytes.
use mathlib.Core.Path.{◌≡◌, refl, ap}
use mathlib.Core.Bool.{true, false}
use mathlib.Core.List.{List, ◌∷◌}
use Prim.Native.Nat.{ℕ, zero, suc, ◌/◌, ◌%◌, ◌^◌, ◌≤◌, ◌<◌}
use native.Mathlib.Nat.{div-one}
use native.Mathlib.Omega.{arith}
use Rattle.std.proofs.lemmas.Bool.Decides.{nat_tests}
use Rattle.std.specs.Int.{bytes_high_first}
use Rattle.digits.specs.Digits.{between, is_digit, digit_value, digit_of, byte_of, bytes_of}

-- ---- which bytes are digits

pub inside : (low high c : ℕ) → low ≤ c → c ≤ high → between low high c ≡ true
unfolding between
inside low high c l h = grind (arith, nat_tests)

pub below : (low high c : ℕ) → c < low → between low high c ≡ false
unfolding between
below low high c l = grind (arith, nat_tests)

pub above : (low high c : ℕ) → high < c → between low high c ≡ false
unfolding between
above low high c h = grind (arith, nat_tests)

-- a number that is a digit's value
pub a_value_below : (v c : ℕ) → v ≡ digit_value c → v < 16
unfolding between
a_value_below v c e = grind (arith, nat_tests)

-- ---- a digit's value comes back

-- a digit, with its value
pub record Digit (v c : ℕ) : Type 0 where
  pub is : is_digit c ≡ true
  pub value : digit_value c ≡ v

pub digit_back : (v : ℕ) → v < 16 → Digit v (digit_of v)
unfolding between digit_of
digit_back v l = record { is = grind (arith, nat_tests); value = grind (arith, nat_tests) }

pub byte_back : (b : ℕ) → b < 256 → byte_of (digit_of (b / 16)) (digit_of (b % 16)) ≡ b
byte_back b l = rw ((digit_back (b / 16) (omega arith)).value, (digit_back (b % 16) (omega arith)).value) (omega arith)

-- ---- a number's bytes

-- what std makes of a number, the high byte first
pub high_first : (size n : ℕ) → bytes_high_first size n ≡ bytes_of size n
high_first zero n = refl
high_first (suc zero) n = rw (div-one n)
high_first (suc (suc size)) n = ap (λ (bytes : List ℕ). n / 256 ^ suc size % 256 ∷ bytes) (high_first (suc size) n)
