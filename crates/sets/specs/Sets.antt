-- Sets of settings as numbers (document 01, "Setups": setting i adds 2^(i−1)). Places count from 0, so that the setting at place i
-- is setting number i + 1 and adds 2 ^ i. No definition names a width: a set over n settings is a number below 2 ^ n.
use Rattle.std.specs.Prelude.{◌≡◌, refl, ◌⊎◌, ◌≢◌, ◌↔◌, cond, ◌&&◌, ℕ, ◌-◌, ◌/◌, ◌%◌, ◌^◌, ltb, leb}

-- the digit of S at place i: 1 where the setting there is in S, else 0
abbrev pub digit : ℕ → ℕ → ℕ
digit S i = S / 2 ^ i % 2

-- the setting at place i is in S
abbrev pub In : ℕ → ℕ → Type 0
In i S = digit S i ≡ 1

-- 6 holds the settings at the places 1 and 2
example_in : In 1 6 × In 2 6 × (digit 6 0 ≡ 0)
example_in = (refl, refl, refl)

-- S lies within R: each setting of S is one of R
abbrev pub Within : ℕ → ℕ → Type 0
Within S R = (i : ℕ) → In i S → In i R

-- S and R share a setting
abbrev pub Share : ℕ → ℕ → Type 0
Share S R = (i : ℕ) × In i S × In i R

-- 6 and 12 share the setting at place 2
example_share : Share 6 12
example_share = (2, refl, refl)

-- Q has the settings of S and those of R
abbrev pub Joins : ℕ → ℕ → ℕ → Type 0
Joins S R Q = (i : ℕ) → In i Q ↔ (In i S ⊎ In i R)

-- Q has the settings of S that are none of R
abbrev pub Leaves : ℕ → ℕ → ℕ → Type 0
Leaves S R Q = (i : ℕ) → In i Q ↔ (In i S × ¬ In i R)

-- the set of the one setting that has this number, counted from 1; the empty set where there is no such number among `width` settings
abbrev pub only : ℕ → ℕ → ℕ
only width number = cond (ltb 0 number && leb number width) (2 ^ (number - 1)) 0

-- setting 3 alone is 4; there is no setting 0 and, of 32 settings, no setting 33
example_only : (only 32 3 ≡ 4) × (only 32 0 ≡ 0) × (only 32 33 ≡ 0)
example_only = (refl, refl, refl)

-- S has no two settings
abbrev pub AtMostOne : ℕ → Type 0
AtMostOne S = (i j : ℕ) → In i S → In j S → i ≡ j

-- P holds of S and of no other set within S: "smallest" never means fewest members
abbrev pub Smallest : (ℕ → Type 0) → ℕ → Type 0
Smallest P S = P S × ((R : ℕ) → Within R S → R ≢ S → ¬ P R)
