-- The tests that compute, for what Setups says: each is proved to mean its proposition (proofs/Tests.antt).
use Rattle.std.specs.Prelude.{◌≡◌, refl, Bool, true, not, ◌&&◌, ◌||◌, List, [], ◌∷◌, ℕ, zero, suc, ◌-◌, ◌^◌, ltb}
use Rattle.sets.specs.Tests.{has, every}
use Rattle.setups.specs.Clauses.{clauses, all_true}
use Rattle.setups.specs.Setups.{Setup, setup, settings, count}

-- some assignment of n variables passes
abbrev pub some : ℕ → (List ℕ → Bool) → Bool
some zero test = test []
some (suc n) test = some n (λ m. test (0 ∷ m)) || some n (λ m. test (1 ∷ m))

-- each setting whose place is kept is true
abbrev pub held : (ℕ → Bool) → List ℕ → List (List (List ℕ)) → Bool
held keep m [] = true
held keep m (setting ∷ rest) = (not (keep 0) || all_true m setting) && held (λ i. keep (suc i)) m rest

abbrev pub meetable : Setup → (ℕ → Bool) → Bool
meetable g keep = some g.variables (λ m. all_true m (clauses g.hard) && held keep m (settings g.soft))

abbrev pub together : Setup → ℕ → Bool
together g C = meetable g (has C)

abbrev pub without : Setup → ℕ → Bool
without g S = meetable g (λ i. not (has S i))

abbrev pub way_out : Setup → ℕ → Bool
way_out g S = ltb S (2 ^ count g) && (without g S && every (count g) (λ i. not (has S i) || not (without g (S - 2 ^ i))))

abbrev pub clash : Setup → ℕ → Bool
clash g C = ltb C (2 ^ count g) && (not (together g C) && every (count g) (λ i. not (has C i) || together g (C - 2 ^ i)))

-- hard (−1), soft (1): giving up the one setting is the way out, and it is a clash by itself
example_way_out : (way_out (setup 1 (129 ∷ 0 ∷ []) (1 ∷ 0 ∷ [])) 1 ≡ true) × (clash (setup 1 (129 ∷ 0 ∷ []) (1 ∷ 0 ∷ [])) 1 ≡ true)
example_way_out = (refl, refl)
