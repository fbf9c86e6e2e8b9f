-- What List's promise says of each answer, in document 01's words.
use Rattle.std.specs.Prelude.{◌≡◌, ◌≢◌, ◌↔◌, List, ℕ}
use Rattle.setups.specs.Refusals.{unmet}
use Rattle.setups.specs.Setups.{Setup, Together, WayOut}
use Rattle.setups.specs.GivenOut.{ListResult, without_list, zeroed, GivesExactly}

-- of the result r, where `refusal` is the first of 1 to 7, or 0
pub record ListMeans (g : Setup) (refusal : ℕ) (list scratch : List ℕ) (r : ListResult) : Type 0 where
  -- these refusals write nothing
  pub refused : refusal ≢ 0 → r ≡ without_list refusal list scratch
  -- Unmet exactly when the hard clauses have no model; it leaves the list buffer, and the whole scratch is zero
  pub fails : (r.number ≡ unmet) ↔ ((refusal ≡ 0) × ¬ Together g 0)
  pub leaves : r.number ≡ unmet → r ≡ without_list unmet list (zeroed scratch)
  -- else the ways out are given out: Listed or TooMany
  pub gives : GivesExactly ((refusal ≡ 0) × Together g 0) (WayOut g) list scratch r
