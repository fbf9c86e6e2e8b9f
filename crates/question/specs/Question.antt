-- The question under List: kept and given-up settings as two sets, found sets as a list.
use Rattle.std.specs.Prelude.{refl, ◌↔◌, List, [], ◌∷◌, ℕ, zero, suc, ◌^◌, ◌≤◌, ◌<◌, get_or, Option, Some, None}
use Rattle.std.proofs.Common.{zero-le, arith, lit<}
use Rattle.sets.specs.Sets.{In}
use Rattle.sets.specs.Lists.{Among}
use Rattle.setups.specs.Setups.{Setup, setup, count, SettingTrue, Models}

-- m meets the hard clauses, each kept setting, and of each found set one setting
pub record Meets (g : Setup) (kept : ℕ) (found m : List ℕ) : Type 0 where
  pub models : Models g (λ i. In i kept) m
  pub each : (W : ℕ) → Among W found → (i : ℕ) × (i < count g) × In i W × SettingTrue g m i

-- m breaks each given-up setting
abbrev pub Breaks : Setup → ℕ → List ℕ → Type 0
Breaks g given m = (i : ℕ) → i < count g → In i given → ¬ SettingTrue g m i

-- w is the set of the settings that m makes true
pub record Shows (g : Setup) (m : List ℕ) (w : ℕ) : Type 0 where
  pub below : w < 2 ^ count g
  pub exact : (i : ℕ) → i < count g → In i w ↔ SettingTrue g m i

-- Some w: w is what some model makes true that meets what is asked. None: no such model also breaks every given-up setting.
abbrev pub Says : Setup → ℕ → ℕ → List ℕ → Option ℕ → Type 0
Says g kept given found (Some w) = (m : List ℕ) × Meets g kept found m × Shows g m w
Says g kept given found None = (m : List ℕ) → Meets g kept found m → Breaks g given m → ⊥

-- soft (1), (−1), the first kept: the model 1 makes it alone true
example_says : Says (setup 1 [] (1 ∷ 0 ∷ 129 ∷ 0 ∷ [])) 1 0 [] (Some 1)
example_says = (1 ∷ [], record { models = models; each = λ W h. absurd h }, record { below = lit< tt; exact = exact })
  where
    bits : (i : ℕ) → i < 1 → get_or (1 ∷ []) i 0 ≤ 1
    bits zero l = l
    bits (suc i) l = zero-le

    kept : (i : ℕ) → i < 2 → In i 1 → SettingTrue (setup 1 [] (1 ∷ 0 ∷ 129 ∷ 0 ∷ [])) (1 ∷ []) i
    kept zero l h = tt
    kept (suc zero) l h = absurd (let b : ⊥ = omega arith in b)
    kept (suc (suc i)) l h = absurd (let b : ⊥ = omega arith in b)

    models : Models (setup 1 [] (1 ∷ 0 ∷ 129 ∷ 0 ∷ [])) (λ i. In i 1) (1 ∷ [])
    models = record { assigns = record { size = refl; bits = bits }; hard = tt; kept = kept }

    exact : (i : ℕ) → i < 2 → In i 1 ↔ SettingTrue (setup 1 [] (1 ∷ 0 ∷ 129 ∷ 0 ∷ [])) (1 ∷ []) i
    exact zero l = ((λ h. tt), λ t. refl)
    exact (suc zero) l = ((λ h. absurd (let b : ⊥ = omega arith in b)), λ t. absurd t)
    exact (suc (suc i)) l = absurd (let b : ⊥ = omega arith in b)
