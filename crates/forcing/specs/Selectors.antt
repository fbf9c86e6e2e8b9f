-- Selectors along a buffer: the next one, the clauses that are due, and a setting added to a set.
use Rattle.std.specs.Prelude.{◌≡◌, refl, ◌⊎◌, ◌↔◌, Bool, List, [], ◌∷◌, ℕ, zero, suc, ◌<◌, min, T, eqb, length, get_or}
use Rattle.std.proofs.Common.{arith}
use Rattle.sets.specs.Sets.{In}
use Rattle.setups.specs.Limits.{settings_most}
use Rattle.setups.specs.Clauses.{clauses, passes}

-- the next selector; the one behind the last that a set has is its own
abbrev pub next_selector : ℕ → ℕ
next_selector n = min (suc n) settings_most

example_next : (next_selector 3 ≡ 4) × (next_selector settings_most ≡ settings_most)
example_next = (refl, refl)

-- each clause whose selector is due passes; from the last selector on all have the same
abbrev pub Owing : (ℕ → Type 0) → (ℕ → Bool) → List ℕ → Type 0
Owing Due test bytes = (i : ℕ) → i < length (clauses bytes) → Due (min i settings_most) → T (passes test (get_or (clauses bytes) i []))

-- of the clauses 1 and 2 the one at selector 1 is due, and it passes
example_owes : Owing (λ n. In n 2) (λ b. eqb b 2) (1 ∷ 0 ∷ 2 ∷ 0 ∷ [])
example_owes zero l due = absurd (let b : ⊥ = omega (arith, due) in b)
example_owes (suc zero) l due = tt
example_owes (suc (suc i)) l due = absurd (let b : ⊥ = omega (arith, l) in b)

-- the clauses of the kept settings pass, and every hard clause
pub record OwingBoth (kept : ℕ) (test : ℕ → Bool) (hard soft : List ℕ) : Type 0 where
  pub keeps : Owing (λ n. In n kept) test soft
  pub rules : Owing (λ n. Unit {0}) test hard

-- R is S, with the setting of selector n if it counts and a set has it
abbrev pub Adds : ℕ → Bool → ℕ → ℕ → Type 0
Adds S counts n R = (i : ℕ) → In i R ↔ (In i S ⊎ (T counts × (i ≡ n) × (i < settings_most)))
