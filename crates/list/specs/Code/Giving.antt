-- What List's parts promise each other.
use Rattle.std.specs.Prelude.{◌≡◌, ◌↔◌, Bool, cond, List, ℕ, T, Result, Ok, Err}
use Rattle.sets.specs.Lists.{Exactly}
use Rattle.setups.specs.Setups.{Setup, Together, WayOut}
use Rattle.setups.specs.Refusals.{number_of, unmet}
use Rattle.setups.specs.declared.Refusal.{Refusal}
use Rattle.setups.specs.declared.taken.TakenSetup.{TakenSetup}
use Rattle.setups.specs.GivenOut.{without_list, zeroed, given_out}
use Rattle.setups.specs.Code.SetupOf.{setup_of}
use Rattle.walk.specs.Walking.{over}
use Rattle.list.specs.declared.Listing.{Listing}
use Rattle.list.specs.Listing.{answered}

-- the checks before the search: the setup, which every search takes, or the first refusal
abbrev pub Checks : Setup → ℕ → Result TakenSetup Refusal → Type 0
Checks g refusal (Ok taken) = (refusal ≡ 0) × (setup_of taken ≡ g)
Checks g refusal (Err r) = refusal ≡ number_of r

-- The list given out from the places it was found in, of which the job makes zeros afterwards: `ways` are exactly the ways out, rising,
-- and `met` tells whether the hard clauses have a model.
pub record GivesWays (g : Setup) (list found : List ℕ) (answer : Result Listing Refusal) (after found_after : List ℕ) : Type 0 where
  pub ways : List ℕ
  pub exact : Exactly (WayOut g) ways
  pub met : Bool
  pub meets : T met ↔ Together g 0
  pub places : found_after ≡ over ways found
  pub says : (scratch : List ℕ)
      → answered answer after (zeroed scratch) ≡ cond met (given_out ways list scratch) (without_list unmet list (zeroed scratch))
