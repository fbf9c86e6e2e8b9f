-- The tests that compute, for what Sets, Lists and Turns say: each is proved to mean its proposition (proofs/Tests.antt).
use Rattle.std.specs.Prelude.{◌≡◌, refl, Bool, true, false, not, ◌&&◌, ◌||◌, List, [], ◌∷◌, ℕ, zero, suc, ◌^◌, eqb, ltb}
use Rattle.sets.specs.Sets.{digit}

-- the setting at place i is in S
abbrev pub has : ℕ → ℕ → Bool
has S i = eqb (digit S i) 1

-- every number below n passes
abbrev pub every : ℕ → (ℕ → Bool) → Bool
every zero test = true
every (suc n) test = test n && every n test

-- every set of the list passes
abbrev pub all : (ℕ → Bool) → List ℕ → Bool
all test [] = true
all test (S ∷ list) = test S && all test list

-- the set S over n settings lies within R
abbrev pub within : ℕ → ℕ → ℕ → Bool
within n S R = every n (λ i. not (has S i) || has R i)

-- each set is above `low`, and below the next
abbrev pub climbs : ℕ → List ℕ → Bool
climbs low [] = true
climbs low (S ∷ list) = ltb low S && climbs S list

-- strictly rising
abbrev pub rises : List ℕ → Bool
rises [] = true
rises (S ∷ list) = climbs S list

-- no set over n settings contains another
abbrev pub apart : ℕ → List ℕ → Bool
apart n [] = true
apart n (S ∷ list) = all (λ R. not (within n S R) && not (within n R S)) list && apart n list

-- a list that Turn and Mark take over n settings
abbrev pub fine : ℕ → List ℕ → Bool
fine n list = rises list && (all (λ S. ltb S (2 ^ n)) list && apart n list)

-- 3, 5 may be turned over three settings; 5, 3 does not rise, 3, 9 has a fourth setting, 1 lies within 5
example_fine : (fine 3 (3 ∷ 5 ∷ []) ≡ true) × (fine 3 (5 ∷ 3 ∷ []) ≡ false) × (fine 3 (3 ∷ 9 ∷ []) ≡ false) × (fine 3 (1 ∷ 5 ∷ []) ≡ false)
example_fine = (refl, refl, refl, refl)
