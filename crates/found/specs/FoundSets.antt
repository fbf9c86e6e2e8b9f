-- Kept settings and found sets, over any test of the settings.
use Rattle.std.specs.Prelude.{refl, Bool, List, ℕ, T, Option, Some, None}
use Rattle.sets.specs.Sets.{In, Within}
use Rattle.sets.specs.Lists.{Among}
use Rattle.sets.specs.Tests.{has}

-- each setting of the set passes
abbrev pub Each : ℕ → (ℕ → Bool) → Type 0
Each S test = (i : ℕ) → In i S → T (test i)

-- one setting of the set passes
abbrev pub One : ℕ → (ℕ → Bool) → Type 0
One S test = (i : ℕ) × In i S × T (test i)

-- of 6, the settings at the places 1 and 2, the one at place 2 is in 5
example_one : One 6 (has 5)
example_one = (2, refl, tt)

-- each kept setting passes, and of each found set one setting
pub record Fit (kept : ℕ) (found : List ℕ) (test : ℕ → Bool) : Type 0 where
  pub keeps : Each kept test
  pub each : (W : ℕ) → Among W found → One W test

-- r has the kept settings, and nothing besides that need not pass where they do and one of those left does
pub record KeepsLast (kept left r : ℕ) : Type 0 where
  pub grows : Within kept r
  pub only : (test : ℕ → Bool) → Each kept test → One left test → Each r test

-- the same for all found sets, where only possible settings can pass
pub record Widens (kept possible : ℕ) (found : List ℕ) (wider : ℕ) : Type 0 where
  pub grows : Within kept wider
  pub stays : (test : ℕ → Bool) → ((i : ℕ) → T (test i) → In i possible) → Fit kept found test → Each wider test

-- there are none only where no test passes all that is asked
abbrev pub Narrows : ℕ → ℕ → List ℕ → Option ℕ → Type 0
Narrows kept possible found (Some wider) = Widens kept possible found wider
Narrows kept possible found None = (test : ℕ → Bool) → ((i : ℕ) → T (test i) → In i possible) → ¬ Fit kept found test
