-- The lowest setting of a set.
use mathlib.Core.Logic.{◌≢◌}
use Prim.Native.Nat.{ℕ, ◌+◌, ◌^◌, ◌<◌}
use native.Mathlib.Omega.{arith}
use mir.Val.{bits}
use Rattle.std.specs.Int.{Width, trailing_zeros}
use Rattle.std.proofs.lemmas.Nat.Bits.{bit_at-trailing_zeros}
use Rattle.sets.specs.Sets.{Share, only}
use Rattle.sets.proofs.Digits.{only_in}

-- a set with a setting has the one whose number is one more than its zeros below the first 1
pub lowest_shared : (width : Width) (left : ℕ) → left ≢ 0 → left < 2 ^ bits width → Share left (only (bits width) (trailing_zeros width left + 1))
lowest_shared width left some below =
    let zeros = trailing_zeros width left in
    let place = bit_at-trailing_zeros width left (omega arith) below in
    (zeros, place.1, (only_in (bits width) (zeros + 1) zeros).1 (omega arith, omega (arith, place.0)))
