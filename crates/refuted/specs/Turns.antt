-- The wrong programs for Turn, read over the definitions of clash and way out.
use Rattle.std.specs.Prelude.{◌≡◌, List, ℕ, length}
use Rattle.sets.specs.Lists.{Exactly}
use Rattle.sets.specs.Turns.{Turned}
use Rattle.setups.specs.Setups.{Setup, count, Clash}
use Rattle.setups.specs.Turn.{TurnGives}
use Rattle.refuted.specs.Programs.{Program, Always, fewest}

-- Turn's input: a settings count and a list of sets
pub record Given : Type 0 where
  pub settings : ℕ
  pub sets : List ℕ

abbrev pub given_over : ℕ → List ℕ → Given
given_over n sets = record { settings = n; sets = sets }

-- the program keeps Turn's promise
abbrev pub KeepsTurn : Program Given → Type 0
KeepsTurn P = (given : Given) (list scratch : List ℕ) → TurnGives given.settings given.sets list scratch (P given list scratch)

-- it copies its input
abbrev pub Copies : Program Given → Type 0
Copies = Always (λ given list scratch filled listed. listed ≡ given.sets)

-- it copies only on the second turn: given the clashes of a setup, it lists these
abbrev pub CopiesBack : Program Given → Type 0
CopiesBack = Always (λ given list scratch filled listed. (g : Setup) → count g ≡ given.settings → Exactly (Clash g) given.sets → listed ≡ given.sets)

-- its list count is made up, from everything but what the given sets are: the settings count, how many sets are given, the list buffer and
-- the scratch
abbrev pub MakesUpTurnCount : (ℕ → ℕ → List ℕ → List ℕ → ℕ) → Program Given → Type 0
MakesUpTurnCount made = Always (λ given list scratch filled listed. filled ≡ made given.settings (length given.sets) list scratch)

-- it skips the second turn's work: given the clashes of a setup, what it lists is made from everything but what the clashes are
abbrev pub SkipsSecond : (ℕ → ℕ → List ℕ → List ℕ → List ℕ) → Program Given → Type 0
SkipsSecond made =
    Always (λ given list scratch filled listed.
    (g : Setup) → count g ≡ given.settings → Exactly (Clash g) given.sets → listed ≡ made given.settings (length given.sets) list scratch)

-- it lists only the sets with the fewest settings
abbrev pub TurnsFewest : Program Given → Type 0
TurnsFewest =
    Always (λ given list scratch filled listed.
    (turned : List ℕ) → Turned given.settings given.sets turned → listed ≡ fewest given.settings turned)
