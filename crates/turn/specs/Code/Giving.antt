-- What the function that gives out the turn promises.
use Rattle.std.specs.Prelude.{◌≡◌, Result, List, ℕ}
use Rattle.sets.specs.Turns.{Turned}
use Rattle.setups.specs.declared.Refusal.{Refusal}
use Rattle.setups.specs.GivenOut.{zeroed, given_out}
use Rattle.turn.specs.Turning.{answered}

-- after the checks: `turned` is the turn of the given list over n settings, and is given out if it fits, with whatever scratch is then
-- set to zero
pub record GivesTurn (n : ℕ) (given list : List ℕ) (answer : Result ℕ Refusal) (after : List ℕ) : Type 0 where
  pub turned : List ℕ
  pub exact : Turned n given turned
  pub says : (scratch : List ℕ) → answered answer after (zeroed scratch) ≡ given_out turned list scratch
