-- Values by place, of which some are free, and the assignments that agree with them.
use Rattle.std.specs.Prelude.{◌≡◌, refl, List, [], ◌∷◌, ℕ, zero, suc, ◌<◌, length, get_or}
use Rattle.std.proofs.Common.{arith}
use Rattle.setups.specs.Limits.{variables_most}
use Rattle.literals.specs.Slots.{AllSet}

-- m gives each variable that has a value the same value
abbrev pub AgreesWith : List ℕ → List ℕ → Type 0
AgreesWith values m = (i : ℕ) → get_or values i 0 < 2 → get_or m i 0 ≡ get_or values i 0

-- variable 1 is free, variable 2 is 0: the assignment 1, 0 agrees
example_agrees : AgreesWith (2 ∷ 0 ∷ []) (1 ∷ 0 ∷ [])
example_agrees zero h = absurd (let b : ⊥ = omega arith in b)
example_agrees (suc zero) h = refl
example_agrees (suc (suc i)) h = refl

-- r agrees with the values and leaves none free
pub record Completes (values r : List ℕ) : Type 0 where
  pub size : length r ≡ variables_most
  pub full : AllSet r
  pub agrees : AgreesWith values r
