-- The algebra of sets of settings as numbers, digit by digit. No law names a width: where a set is over n settings, it says S < 2 ^ n.
use mathlib.Core.Path.{◌≡◌, refl, sym, ap, ◌∙◌}
use mathlib.Core.Logic.Iff
use mathlib.Core.Logic.{◌⊎◌, inl, inr, ⊎_elim, ◌≢◌, ◌↔◌, by_cases}
use mathlib.Core.Bool.{Bool, true, false, not, cond, and-false}
use Prim.Native.Nat.{ℕ, zero, suc, ◌+◌, ◌-◌, ◌*◌, ◌/◌, ◌%◌, ◌^◌, ◌≤◌, ◌<◌, zero-le, min, max}
use native.Mathlib.Nat.{div-one, div-div-eq-div-mul, div-eq_of_lt, div-eq_of_lt-le, zero-div, pow-succ', le_antisymm, le_refl, not-suc-le-zero, le_of_suc-le-suc, lt_of_lt_of_le, zero-lt-suc, suc_inj, suc-ne-zero}
use native.Mathlib.Decide.{ℕ_discrete, dec_lt}
use native.Mathlib.Omega.{arith}
use lib.Arith.{bin_ind}
use lib.Pow.{pow_pos, pow_mono, ones_lt, ones_sub-lt, pow-add}
use lib.Bits.{bit_and, bit_or, and_step, or_step, and_shr, or_shr, shifted_half, shifted_even}
use lib.Dec.{T}
use borrow.Author.Tests.{lt-ltb, le-leb, lt-leb}
use Rattle.sets.specs.Sets.{digit, In, Within, Share, Joins, Leaves, only}
use Rattle.sets.specs.Tests.{has}
use Rattle.numbers.proofs.Deciding.{T_true, any, dec_and, dec_not, dec_iff, stable, cond_case}

-- ---- digits

-- the first digit is the remainder by two
pub digit_zero : (S : ℕ) → digit S 0 ≡ S % 2
digit_zero S = rw div-one

-- the others are the digits of the half
pub digit_suc : (S i : ℕ) → digit S (suc i) ≡ digit (S / 2) i
digit_suc S i = rw (pow-succ' 2 i, ← div-div-eq-div-mul)

-- a digit is 0 or 1
pub digit_le : (S i : ℕ) → digit S i ≤ 1
digit_le S i = omega arith

-- the empty set has no digit but 0
pub digit_none : (i : ℕ) → digit 0 i ≡ 0
digit_none i = rw (zero-div (2 ^ i))

-- a setting is in a set or it is not
pub in_dec : (i S : ℕ) → Dec (In i S)
in_dec i S = ℕ_discrete (digit S i) 1

-- the digit of a setting that is not in the set is 0
pub digit_out : (i S : ℕ) → ¬ In i S → digit S i ≡ 0
digit_out i S h = omega (arith, digit_le S i)

-- the empty set has no member
pub none_in : (i : ℕ) → ¬ In i 0
none_in i h = omega (arith, digit_none i)

-- a setting beyond the first, one place lower, is in the half
pub half_in : (i S : ℕ) → In (suc i) S → In i (S / 2)
half_in i S h = sym (digit_suc S i) ∙ h

-- ---- sets within sets

-- the half of a part lies within the half of the whole
within_half : (S R : ℕ) → Within S R → Within (S / 2) (R / 2)
within_half S R w i h = half_in i R (w (suc i) (digit_suc S i ∙ h))

-- and its first digit is not above the whole's
within_low : (S R : ℕ) → Within S R → S % 2 ≤ R % 2
within_low S R w =
    by_cases (in_dec 0 S)
    (λ h. omega (arith, digit_zero S, digit_zero R, w 0 h))
    (λ h. omega (arith, digit_zero S, digit_out 0 S h))

-- a part is not above the whole
pub within_le : (S R : ℕ) → Within S R → S ≤ R
within_le = bin_ind (λ (S : ℕ). (R : ℕ) → Within S R → S ≤ R) (λ R w. zero-le) step
  where
    step : (S : ℕ) → ((R : ℕ) → Within (S / 2) R → S / 2 ≤ R) → (R : ℕ) → Within S R → S ≤ R
    step S ih R w = omega (arith, ih (R / 2) (within_half S R w), within_low S R w)

-- two sets that lie within each other are the same
pub within_antisym : (S R : ℕ) → Within S R → Within R S → S ≡ R
within_antisym S R a b = le_antisymm (within_le S R a) (within_le R S b)

-- what lies within a part lies within the whole
pub within_trans : (S R Q : ℕ) → Within S R → Within R Q → Within S Q
within_trans S R Q a b i h = b i (a i h)

-- each set lies within itself
pub within_self : (S : ℕ) → Within S S
within_self S i h = h

-- the empty set lies within all
pub none_within : (S : ℕ) → Within 0 S
none_within S i h = absurd (none_in i h)

-- and only the empty set lies within it
pub within_none : (S : ℕ) → Within S 0 → S ≡ 0
within_none S w = within_antisym S 0 w (none_within S)

-- two sets with the same members are the same
pub ext_in : (S R : ℕ) → ((i : ℕ) → In i S ↔ In i R) → S ≡ R
ext_in S R e = within_antisym S R (λ i. (e i).0) (λ i. (e i).1)

-- ---- a set over n settings is a number below 2 ^ n

-- it has no setting from n on
pub in_below : (n : ℕ) {i S : ℕ} → S < 2 ^ n → In i S → i < n
in_below n {i} {S} l h = by_cases (dec_lt i n) (λ k. k) far
  where
    far : ¬ (i < n) → i < n
    far k =
        let m : n ≤ i = omega arith in
        let e : digit S i ≡ 0 = rw (div-eq_of_lt (lt_of_lt_of_le l (pow_mono m))) in
        omega arith

-- two of them with the same first n digits are the same
pub ext_below : (n : ℕ) {S R : ℕ} → S < 2 ^ n → R < 2 ^ n → ((i : ℕ) → i < n → digit S i ≡ digit R i) → S ≡ R
ext_below n {S} {R} s r e =
    within_antisym S R (λ i h. sym (e i (in_below n s h)) ∙ h) (λ i h. e i (in_below n r h) ∙ h)

-- each set is one over as many settings as its number says
pub own_width : (S : ℕ) → S < 2 ^ S
own_width zero = zero-lt-suc 0
own_width (suc S) = omega (arith, own_width S)

-- ---- what sets have in common, and what they lack

-- a set that is not empty has a member
pub member : (S : ℕ) → S ≢ 0 → (i : ℕ) × In i S
member S n =
    by_cases (any S (λ i. In i S) (λ i. in_dec i S)) (λ h. (h.0, h.2))
    (λ q. absurd (n (within_none S (λ i h. absurd (q (i, in_below S (own_width S) h, h))))))

-- sharing goes both ways
pub share_sym : (S R : ℕ) → Share S R → Share R S
share_sym S R h = (h.0, h.2, h.1)

-- the empty set shares with none
pub none_share : (S : ℕ) → ¬ Share 0 S
none_share S h = none_in h.0 h.1

-- two sets share a setting or they do not
pub share_dec : (S R : ℕ) → Dec (Share S R)
share_dec S R =
    dec_iff (λ h. (h.0, h.2.0, h.2.1)) (λ h. (h.0, in_below S (own_width S) h.1, (h.1, h.2)))
    (any S (λ i. In i S × In i R) (λ i. dec_and (in_dec i S) (in_dec i R)))

-- some setting of S is missing in R, or none is
lacking : (S R : ℕ) → Dec ((i : ℕ) × (i < S) × (In i S × ¬ In i R))
lacking S R = any S (λ i. In i S × ¬ In i R) (λ i. dec_and (in_dec i S) (dec_not (in_dec i R)))

-- where none is missing, each is one of R
lacks_none : (S R : ℕ) → ¬ ((i : ℕ) × (i < S) × (In i S × ¬ In i R)) → Within S R
lacks_none S R q i h = stable (in_dec i R) (λ x. q (i, in_below S (own_width S) h, (h, x)))

-- a set lies within another or it does not
pub within_dec : (S R : ℕ) → Dec (Within S R)
within_dec S R = dec_iff (lacks_none S R) (λ w h. h.2.1 (w h.0 h.2.0)) (dec_not (lacking S R))

-- a proper subset lacks a setting
pub missing : (R S : ℕ) → Within R S → R ≢ S → (i : ℕ) × In i S × ¬ In i R
missing R S w ne =
    by_cases (lacking S R) (λ h. (h.0, h.2.0, h.2.1)) (λ q. absurd (ne (within_antisym R S w (lacks_none S R q))))

-- ---- one setting taken out

-- a set is at least what each of its settings adds
pub in_le : (i S : ℕ) → In i S → 2 ^ i ≤ S
in_le zero S h = omega (arith, digit_zero S)
in_le (suc i) S h = omega (arith, in_le i (S / 2) (half_in i S h))

-- a setting beyond the first is taken out of the half, and the first digit stays
out_half : (i S : ℕ) → In (suc i) S → (S - 2 ^ suc i) / 2 ≡ S / 2 - 2 ^ i
out_half i S h = omega (arith, in_le i (S / 2) (half_in i S h))

out_low : (i S : ℕ) → In (suc i) S → (S - 2 ^ suc i) % 2 ≡ S % 2
out_low i S h = omega (arith, in_le i (S / 2) (half_in i S h))

-- it is out then
pub out_gone : (i S : ℕ) → In i S → digit (S - 2 ^ i) i ≡ 0
out_gone zero S h = digit_zero (S - 1) ∙ (let e : (S - 1) % 2 ≡ 0 = omega (arith, digit_zero S) in e)
out_gone (suc i) S h = rw (digit_suc, out_half i S h) (out_gone i (S / 2) (half_in i S h))

-- the others stay as they are
pub out_stays : (i S j : ℕ) → In i S → j ≢ i → digit (S - 2 ^ i) j ≡ digit S j
out_stays zero S zero h n = absurd (n refl)
out_stays zero S (suc j) h n =
    let e : (S - 1) / 2 ≡ S / 2 = omega (arith, digit_zero S) in
    digit_suc (S - 1) j ∙ ap (λ (x : ℕ). digit x j) e ∙ sym (digit_suc S j)
out_stays (suc i) S zero h n = digit_zero (S - 2 ^ suc i) ∙ out_low i S h ∙ sym (digit_zero S)
out_stays (suc i) S (suc j) h n =
    digit_suc (S - 2 ^ suc i) j ∙ ap (λ (x : ℕ). digit x j) (out_half i S h)
    ∙ out_stays i (S / 2) j (half_in i S h) (λ e. n (ap suc e)) ∙ sym (digit_suc S j)

-- what is left has the settings of S but that one
pub out_in : (i S j : ℕ) → In i S → In j (S - 2 ^ i) ↔ (In j S × (j ≢ i))
out_in i S j h = (to, λ k. out_stays i S j h k.1 ∙ k.0)
  where
    to : In j (S - 2 ^ i) → In j S × (j ≢ i)
    to k =
        let n : j ≢ i = λ e. let z : digit (S - 2 ^ i) j ≡ 0 = rw e (out_gone i S h) in omega arith in
        (sym (out_stays i S j h n) ∙ k, n)

-- what is left lies within the set
pub out_within : (i S : ℕ) → In i S → Within (S - 2 ^ i) S
out_within i S h j k = ((out_in i S j h).0 k).0

-- a set without one of its settings is another set
pub out_differs : (i S : ℕ) → In i S → S - 2 ^ i ≢ S
out_differs i S h e = omega (arith, in_le i S h, pow_pos i)

-- a set within S that lacks i lies within S without i
pub within_out : (i S R : ℕ) → In i S → Within R S → ¬ In i R → Within R (S - 2 ^ i)
within_out i S R h w q j k = (out_in i S j h).1 (w j k, λ e. q (rw (← e) k))

-- ---- one setting put in

-- a setting beyond the first is put into the half
put_half : (i S : ℕ) → (S + 2 ^ suc i) / 2 ≡ S / 2 + 2 ^ i
put_half i S = omega arith

-- it is in then
pub put_in : (i S : ℕ) → ¬ In i S → In i (S + 2 ^ i)
put_in zero S h = digit_zero (S + 1) ∙ (let e : (S + 1) % 2 ≡ 1 = omega (arith, digit_zero S, digit_out 0 S h) in e)
put_in (suc i) S h = rw (digit_suc, put_half i S) (put_in i (S / 2) (λ k. h (digit_suc S i ∙ k)))

-- the others stay as they are
pub put_stays : (i S j : ℕ) → ¬ In i S → j ≢ i → digit (S + 2 ^ i) j ≡ digit S j
put_stays i S j h n =
    let e : S + 2 ^ i - 2 ^ i ≡ S = omega arith in
    sym (out_stays i (S + 2 ^ i) j (put_in i S h) n) ∙ ap (λ (x : ℕ). digit x j) e

-- the set has the settings of S, and that one
pub put_member : (i S j : ℕ) → ¬ In i S → In j (S + 2 ^ i) ↔ (In j S ⊎ (j ≡ i))
put_member i S j h = (to, from)
  where
    to : In j (S + 2 ^ i) → In j S ⊎ (j ≡ i)
    to k = by_cases (ℕ_discrete j i) inr (λ n. inl (sym (put_stays i S j h n) ∙ k))

    from : In j S ⊎ (j ≡ i) → In j (S + 2 ^ i)
    from (inl k) = put_stays i S j h (λ e. h (rw (← e) k)) ∙ k
    from (inr e) = rw e (put_in i S h)

-- ---- sets of one setting

-- what the setting at place i adds is the set of that setting alone
pub power_in : (i j : ℕ) → In j (2 ^ i) ↔ (j ≡ i)
power_in i j = (to, λ e. rw e (rw lone at (put_in i 0 (none_in i))))
  where
    lone : 0 + 2 ^ i ≡ 2 ^ i
    lone = omega arith

    to : In j (2 ^ i) → j ≡ i
    to k = by_cases (ℕ_discrete j i) (λ e. e) (λ n. absurd (none_in j (sym (rw lone at (put_stays i 0 j (none_in i) n)) ∙ k)))

-- the set of one setting is what that setting adds, where there is such a number
pub only_power : (width number : ℕ) → 0 < number → number ≤ width → only width number ≡ 2 ^ (number - 1)
only_power width number l m = rw (lt-ltb 0 number l, le-leb number width m)

-- the same with the setting's place, counted from 0
pub only_place : (width i : ℕ) → i < width → only width (suc i) ≡ 2 ^ i
only_place width i l =
    only_power width (suc i) (zero-lt-suc i) l ∙ ap (λ (x : ℕ). 2 ^ x) (let e : suc i - 1 ≡ i = omega arith in e)

-- where there are fewer settings, it is empty
pub only_none : (width number : ℕ) → width < number → only width number ≡ 0
only_none width number l = rw (lt-leb number width l, and-false)

-- it has that setting, where there is such a number, and no other
pub only_in : (width number j : ℕ) → In j (only width number) ↔ ((suc j ≡ number) × (number ≤ width))
only_in width zero j = ((λ h. absurd (none_in j h)), λ h. absurd (suc-ne-zero j h.0))
only_in width (suc i) j = by_cases (dec_lt i width) one none
  where
    one : i < width → In j (only width (suc i)) ↔ ((suc j ≡ suc i) × (i < width))
    one l = rw (only_place width i l) ((λ h. (ap suc ((power_in i j).0 h), l)), λ h. (power_in i j).1 (suc_inj h.0))

    none : ¬ (i < width) → In j (only width (suc i)) ↔ ((suc j ≡ suc i) × (i < width))
    none l = rw (only_none width (suc i) (omega arith)) ((λ h. absurd (none_in j h)), λ h. absurd (l h.1))

-- to share with the set of the setting at place i is to have that setting
pub share_only : (width i S : ℕ) → i < width → Share S (only width (suc i)) ↔ In i S
share_only width i S l = (
  (λ h. rw (suc_inj ((only_in width (suc i) h.0).0 h.2).0) at h.1),
  λ h. (i, h, (only_in width (suc i) i).1 (refl, l)),
)

-- S joined with the set of a setting that is not in it is S with that setting put in
pub joins_only : (width i S Q : ℕ) → i < width → ¬ In i S → Joins S (only width (suc i)) Q → Q ≡ S + 2 ^ i
joins_only width i S Q l h q =
    ext_in Q (S + 2 ^ i) (λ j. Iff.trans (q j) (Iff.trans (step j) (Iff.symm (put_member i S j h))))
  where
    step : (j : ℕ) → (In j S ⊎ In j (only width (suc i))) ↔ (In j S ⊎ (j ≡ i))
    step j =
        rw (only_place width i l)
        (⊎_elim inl (λ k. inr ((power_in i j).0 k)), ⊎_elim inl (λ e. inr ((power_in i j).1 e)))

-- ---- all settings, and those that pass a test

-- of two numbers that add up to one less than an even number one is odd, and the halves add up likewise
opposite_low : (a b p : ℕ) → a + b + 1 ≡ 2 * p → a % 2 + b % 2 ≡ 1
opposite_low a b p e = omega arith

opposite_half : (a b p : ℕ) → a + b + 1 ≡ 2 * p → a / 2 + b / 2 + 1 ≡ p
opposite_half a b p e = omega arith

-- two sets that add up to all of n settings: each setting is in one of them
pub opposite_digit : (n a b i : ℕ) → a + b + 1 ≡ 2 ^ n → i < n → digit a i + digit b i ≡ 1
opposite_digit zero a b i e l = absurd (not-suc-le-zero l)
opposite_digit (suc n) a b zero e l = rw (digit_zero a, digit_zero b) (opposite_low a b (2 ^ n) (e ∙ pow-succ' 2 n))
opposite_digit (suc n) a b (suc i) e l =
    rw (digit_suc a i, digit_suc b i)
    (opposite_digit n (a / 2) (b / 2) i (opposite_half a b (2 ^ n) (e ∙ pow-succ' 2 n)) (le_of_suc-le-suc l))

-- the set of all n settings has exactly those at the places below n
pub full_in : (n j : ℕ) → In j (2 ^ n - 1) ↔ (j < n)
full_in n j = (
  in_below n (ones_lt n),
  λ l. omega (arith, opposite_digit n (2 ^ n - 1) 0 j (omega (arith, pow_pos n)) l, digit_none j),
)

-- the set of those of the first n settings that pass the test
abbrev pub those : ℕ → (ℕ → Bool) → ℕ
those zero test = 0
those (suc n) test = cond (test 0) 1 0 + 2 * those n (λ i. test (suc i))

-- a test counts for one at the most
one_le : (b : Bool) → cond b 1 0 ≤ 1
one_le b = cond_case (λ (x : ℕ). x ≤ 1) b (λ e. omega arith) (λ e. omega arith)

-- it is a set over n settings
pub those_lt : (n : ℕ) (test : ℕ → Bool) → those n test < 2 ^ n
those_lt zero test = zero-lt-suc 0
those_lt (suc n) test = omega (arith, one_le (test 0), those_lt n (λ i. test (suc i)))

-- its digits are the tests' results
pub those_digit : (n : ℕ) (test : ℕ → Bool) (i : ℕ) → i < n → digit (those n test) i ≡ cond (test i) 1 0
those_digit zero test i l = absurd (not-suc-le-zero l)
those_digit (suc n) test zero l = rw digit_zero (omega (arith, one_le (test 0)))
those_digit (suc n) test (suc i) l =
    let rest = those n (λ k. test (suc k)) in
    let e : (cond (test 0) 1 0 + 2 * rest) / 2 ≡ rest = omega (arith, one_le (test 0)) in
    rw (digit_suc, e) (those_digit n (λ k. test (suc k)) i (le_of_suc-le-suc l))

-- its members are the settings that pass
pub those_in : (n : ℕ) (test : ℕ → Bool) (i : ℕ) → In i (those n test) ↔ ((i < n) × T (test i))
those_in n test i = (to, λ h. those_digit n test i h.0 ∙ rw ((T_true (test i)).0 h.1))
  where
    passes : (b : Bool) → ◌≡◌ {A = ℕ} (cond b 1 0) 1 → T b
    passes true e = tt
    passes false e = omega arith

    to : In i (those n test) → (i < n) × T (test i)
    to h = let l = in_below n (those_lt n test) h in (l, passes (test i) (sym (those_digit n test i l) ∙ h))

-- ---- a set cut at a place

-- the digits from place i on are those of the set divided by what place i adds
pub digit_up : (i S k : ℕ) → digit S (i + k) ≡ digit (S / 2 ^ i) k
digit_up i S k = rw (pow-add 2 i k, ← div-div-eq-div-mul)

-- the numbers from a * 2 ^ i up to the next multiple of 2 ^ i have the digits of a from place i on
pub high_digit : (i a S k : ℕ) → a * 2 ^ i ≤ S → S < a * 2 ^ i + 2 ^ i → digit S (i + k) ≡ digit a k
high_digit i a S k l m = rw (digit_up, div-eq_of_lt-le (2 ^ i) l (let h : S < (a + 1) * 2 ^ i = omega arith in h))

-- below place i a multiple of 2 ^ i has no setting
low_none : (i a j : ℕ) → j < i → digit (a * 2 ^ i) j ≡ 0
low_none zero a j l = absurd (not-suc-le-zero l)
low_none (suc i) a zero l = rw (digit_zero, shifted_even)
low_none (suc i) a (suc j) l = rw (digit_suc, shifted_half) (low_none i a j (le_of_suc-le-suc l))

-- each setting of a * 2 ^ i is one of a, i places higher
pub high_in : (i a j : ℕ) → In j (a * 2 ^ i) → (k : ℕ) × (j ≡ i + k) × In k a
high_in i a j h = by_cases (dec_lt j i) (λ l. absurd (let b : ⊥ = omega (arith, low_none i a j l) in b)) high
  where
    high : ¬ (j < i) → (k : ℕ) × (j ≡ i + k) × In k a
    high l =
        let e : j ≡ i + (j - i) = omega arith in
        let top = high_digit i a (a * 2 ^ i) (j - i) (le_refl (a * 2 ^ i)) (omega (arith, pow_pos i)) in
        (j - i, e, sym top ∙ rw (← e) h)

-- ---- the settings outside a set

-- the first n settings without those of S
pub other : ℕ → ℕ → ℕ
other n S = those n (λ i. not (has S i))

-- it is a set over n settings
pub other_lt : (n S : ℕ) → other n S < 2 ^ n
unfolding other
other_lt n S = those_lt n (λ i. not (has S i))

-- its digits are turned about
pub other_digit : (n S i : ℕ) → i < n → digit (other n S) i ≡ 1 - digit S i
unfolding other
other_digit n S i l =
    those_digit n (λ k. not (has S k)) i l ∙ by_cases (in_dec i S) (λ e. rw e) (λ k. rw (digit_out i S k))

-- a setting that is not in S is outside
pub other_in : (n S i : ℕ) → i < n → ¬ In i S → In i (other n S)
other_in n S i l h = other_digit n S i l ∙ rw (digit_out i S h)

-- one that is in S is not
pub other_out : (n S i : ℕ) → In i S → ¬ In i (other n S)
other_out n S i h k = omega (arith, other_digit n S i (in_below n (other_lt n S) k))

-- outside the outside is the set itself
pub other_other : (n S : ℕ) → S < 2 ^ n → other n (other n S) ≡ S
other_other n S s =
    ext_below n (other_lt n (other n S)) s
    (λ i l. omega (arith, other_digit n (other n S) i l, other_digit n S i l, digit_le S i))

-- a larger set has less outside
pub other_within : (n S R : ℕ) → Within S R → Within (other n R) (other n S)
other_within n S R w i h = other_in n S i (in_below n (other_lt n R) h) (λ k. other_out n R i (w i k) h)

-- ---- the machine's operations on sets

-- each digit of `and` is the smaller of the two
pub digit_and : (S R i : ℕ) → digit (bit_and S R) i ≡ min (digit S i) (digit R i)
digit_and S R i = rw and_shr (omega (arith, and_step (S / 2 ^ i) (R / 2 ^ i)))

-- each digit of `or` is the larger of the two
pub digit_or : (S R i : ℕ) → digit (bit_or S R) i ≡ max (digit S i) (digit R i)
digit_or S R i = rw or_shr (omega (arith, or_step (S / 2 ^ i) (R / 2 ^ i)))

-- `and` has the settings of both
pub and_in : (S R i : ℕ) → In i (bit_and S R) ↔ (In i S × In i R)
and_in S R i = omega (arith, digit_and S R i, digit_le S i, digit_le R i)

-- `or` joins the two
pub or_joins : (S R : ℕ) → Joins S R (bit_or S R)
or_joins S R i = (
  to,
  ⊎_elim (λ h. omega (arith, digit_or S R i, digit_le R i)) (λ h. omega (arith, digit_or S R i, digit_le S i)),
)
  where
    to : In i (bit_or S R) → In i S ⊎ In i R
    to h = by_cases (in_dec i S) inl (λ k. inr (omega (arith, digit_or S R i, digit_out i S k, digit_le R i)))

-- `not`, over n settings, is the outside
pub not_other : (n S : ℕ) → S < 2 ^ n → 2 ^ n - 1 - S ≡ other n S
not_other n S s =
    ext_below n (ones_sub-lt n S) (other_lt n S)
    (λ i l. omega (arith, opposite_digit n (2 ^ n - 1 - S) S i (omega arith) l, other_digit n S i l))

-- `and` with `not` leaves what is not in the other
pub and_not_leaves : (n S R : ℕ) → S < 2 ^ n → R < 2 ^ n → Leaves S R (bit_and S (2 ^ n - 1 - R))
and_not_leaves n S R s r i =
    rw (not_other n R r) (
      (λ h. let k = (and_in S (other n R) i).0 h in (k.0, λ z. other_out n R i z k.1)),
      λ h. (and_in S (other n R) i).1 (h.0, other_in n R i (in_below n s h.0) h.1),
    )

-- `and` is not empty exactly where the two share a setting
pub and_share : (S R : ℕ) → (bit_and S R ≢ 0) ↔ Share S R
and_share S R = (to, λ h e. none_in h.0 (rw e at ((and_in S R h.0).1 (h.1, h.2))))
  where
    to : bit_and S R ≢ 0 → Share S R
    to n =
        let r = member (bit_and S R) n in
        let k = (and_in S R r.0).0 r.1 in
        (r.0, k.0, k.1)

-- `and` is the first exactly where that lies within the second
pub and_within : (S R : ℕ) → (bit_and S R ≡ S) ↔ Within S R
and_within S R = (
  (λ e i h. ((and_in S R i).0 (rw e h)).1),
  λ w. ext_in (bit_and S R) S (λ i. ((λ h. ((and_in S R i).0 h).0), λ h. (and_in S R i).1 (h, w i h))),
)
