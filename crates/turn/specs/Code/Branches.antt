-- The branches of Turn's search: some settings are taken, some are left to take or leave, the others are out.
use Rattle.std.specs.Prelude.{◌⊎◌, ◌≢◌, List, ℕ}
use Rattle.sets.specs.Sets.{In, Within, Share, Smallest}
use Rattle.members.specs.Members.{Hits}
use Rattle.turn.specs.declared.Branch.{Branch}

-- the sets that a branch holds: they hit every member while no proper subset does, have every taken setting, and no setting that is
-- neither taken nor left
pub record Holds (members : List ℕ) (taken left S : ℕ) : Type 0 where
  pub smallest : Smallest (Hits members) S
  pub has : Within taken S
  pub rest : (i : ℕ) → In i S → In i taken ⊎ In i left

abbrev pub HeldBy : Branch → ℕ → Type 0
HeldBy branch = Holds branch.members.now branch.taken branch.left

-- a branch that turns on the settings of `wanted`: they are left and not taken, and each set of the branch has one of them
pub record TurnsOn (members : List ℕ) (taken left wanted : ℕ) : Type 0 where
  pub some : wanted ≢ 0
  pub among : Within wanted left
  pub apart : (i : ℕ) → In i wanted → ¬ In i taken
  pub each : (S : ℕ) → Holds members taken left S → Share S wanted
