-- Sets of one setting at the most: `and` with the number before tells them.
use mathlib.Core.Path.{◌≡◌, refl, sym, ap, ◌∙◌}
use Prim.Native.Nat.{ℕ, zero, suc, ◌+◌, ◌-◌, ◌*◌, ◌/◌, ◌%◌, ◌^◌, ◌<◌, min}
use native.Mathlib.Omega.{arith}
use lib.Arith.{bin_ind}
use lib.Bits.{bit_and, and_step, and_self}
use Rattle.sets.specs.Sets.{In, only, AtMostOne}
use Rattle.sets.proofs.Digits.{digit_zero, half_in, none_in, within_none, ext_in, and_in, power_in, full_in, only_in}

-- a set that has the first setting, and has nothing in common with the number before it, has no other
first_only : (S : ℕ) → In 0 S → bit_and S (S - 1) ≡ 0 → S / 2 ≡ 0
first_only S h e =
    let odd : S % 2 ≡ 1 = sym (digit_zero S) ∙ h in
    let same : (S - 1) / 2 ≡ S / 2 = omega arith in
    let step : bit_and S (S - 1) ≡ S / 2 * 2 + min (S % 2) ((S - 1) % 2) = rw (← and_self (S / 2)) (rw same at (and_step S (S - 1))) in
    omega arith

-- one that has it not leaves the same to its half
later_only : (S : ℕ) → ¬ In 0 S → bit_and S (S - 1) ≡ 0 → bit_and (S / 2) (S / 2 - 1) ≡ 0
later_only S h e =
    let even : S % 2 ≡ 0 = omega (arith, digit_zero S) in
    let same : (S - 1) / 2 ≡ S / 2 - 1 = omega arith in
    let step : bit_and S (S - 1) ≡ bit_and (S / 2) (S / 2 - 1) * 2 + min (S % 2) ((S - 1) % 2) = rw same at (and_step S (S - 1)) in
    omega arith

-- a set has one setting only where it has nothing in common with the number before it
pub one_only : (S : ℕ) → bit_and S (S - 1) ≡ 0 → AtMostOne S
one_only = bin_ind (λ (S : ℕ). bit_and S (S - 1) ≡ 0 → AtMostOne S) (λ e i j h. absurd (none_in i h)) step
  where
    alone_first : (S j : ℕ) → In 0 S → bit_and S (S - 1) ≡ 0 → ¬ In (suc j) S
    alone_first S j h e k = none_in j (rw (first_only S h e) at (half_in j S k))

    step : (S : ℕ) → (bit_and (S / 2) (S / 2 - 1) ≡ 0 → AtMostOne (S / 2)) → bit_and S (S - 1) ≡ 0 → AtMostOne S
    step S half e zero zero h k = refl
    step S half e zero (suc j) h k = absurd (alone_first S j h e k)
    step S half e (suc i) zero h k = absurd (alone_first S i k e h)
    step S half e (suc i) (suc j) h k = ap suc (half (later_only S (λ f. alone_first S i f e h) e) i j (half_in i S h) (half_in j S k))

-- and only there
pub only_one : (S : ℕ) → AtMostOne S → bit_and S (S - 1) ≡ 0
only_one S single = within_none (bit_and S (S - 1)) (λ i h. absurd (clash i ((and_in S (S - 1) i).0 h)))
  where
    clash : (i : ℕ) → ¬ (In i S × In i (S - 1))
    clash i h =
        let power : S ≡ 2 ^ i = ext_in S (2 ^ i) (λ j. ((λ k. (power_in i j).1 (single j i k h.0)), λ k. rw ((power_in i j).0 k) h.0)) in
        let below : i < i = (full_in i i).0 (rw power at h.1) in
        omega arith

-- the set of one setting has no two
pub only_lone : (width number : ℕ) → AtMostOne (only width number)
only_lone width number i j h k = omega (arith, ((only_in width number i).0 h).0, ((only_in width number j).0 k).0)
