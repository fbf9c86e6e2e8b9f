-- What the lines mean, over the definitions of ways out and clashes.
use Rattle.std.specs.Prelude.{◌≡◌, ◌⊎◌, ◌≢◌, List, ℕ}
use Rattle.sets.specs.Lists.{Exactly}
use Rattle.setups.specs.Setups.{Setup, setup, WayOut, Clash}
use Rattle.setups.specs.Refusals.{finished, unmet}
use Rattle.read.specs.Texts.{judge, good}
use Rattle.lines.specs.Lines.{answer_lines, refusal_lines}

-- the 40 lines are exactly the ways out of the setup, rising, and the 50 lines exactly its clashes
pub record Resolved (g : Setup) (outcome : ℕ) (lines : List ℕ) : Type 0 where
  pub ways : List ℕ
  pub clashes : List ℕ
  pub says : lines ≡ answer_lines outcome ways clashes
  pub ways_out : Exactly (WayOut g) ways
  pub all_clashes : Exactly (Clash g) clashes

-- the text says a setup, and with the outcome 00 or 80 the lines resolve it
pub record ResolvesText (text lines : List ℕ) : Type 0 where
  pub variables : ℕ
  pub hard : List ℕ
  pub soft : List ℕ
  pub said : judge text ≡ good variables hard soft
  pub outcome : ℕ
  pub ends : (outcome ≡ finished) ⊎ (outcome ≡ unmet)
  pub resolved : Resolved (setup variables hard soft) outcome lines

-- any other outcome stands alone, on the last line with both counts 0
pub record RefusesText (lines : List ℕ) : Type 0 where
  pub number : ℕ
  pub not_finished : number ≢ finished
  pub not_unmet : number ≢ unmet
  pub says : lines ≡ refusal_lines number
