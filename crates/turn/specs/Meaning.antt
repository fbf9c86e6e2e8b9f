-- What Turn's promise says of each answer, in document 01's words.
use Rattle.std.specs.Prelude.{◌≡◌, ◌≢◌, List, ℕ, ◌≤◌, ◌<◌, length}
use Rattle.sets.specs.Lists.{Among}
use Rattle.sets.specs.Turns.{SmallestCross, Fine}
use Rattle.setups.specs.Limits.{sets_most, settings_most}
use Rattle.setups.specs.GivenOut.{ListResult, without_list, GivesExactly}

-- the list may be turned over n settings, into so many places and with such a scratch: none of 7, 2, 3, 9 is given
pub record Turnable (n : ℕ) (given : List ℕ) (room scratch_room : ℕ) : Type 0 where
  pub settings : n ≤ settings_most
  pub sets : length given ≤ sets_most
  pub places : room ≤ sets_most
  pub work : room < scratch_room
  pub fine : Fine n given

-- of the result r, where `refusal` is the first of 7, 2, 3, 9, or 0
pub record TurnMeans (n : ℕ) (given : List ℕ) (refusal : ℕ) (list scratch : List ℕ) (r : ListResult) : Type 0 where
  -- these refusals write nothing
  pub refused : refusal ≢ 0 → r ≡ without_list refusal list scratch
  -- the sets that share a setting with each given set, while no proper subset does, are given out: Listed or TooMany
  pub gives : GivesExactly (refusal ≡ 0) (SmallestCross n (λ M. Among M given)) list scratch r
