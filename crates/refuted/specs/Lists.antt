-- The wrong programs for List.
use Rattle.std.specs.Prelude.{◌≡◌, ◌↔◌, List, [], ◌∷◌, ◌++◌, ℕ, ◌+◌, ◌≤◌, length}
use Rattle.sets.specs.Lists.{Among, Exactly}
use Rattle.setups.specs.Refusals.{finished}
use Rattle.setups.specs.Setups.{Setup, setup, count, WayOut}
use Rattle.setups.specs.List.{ListGives}
use Rattle.table.specs.Rows.{P4-ways}
use Rattle.refuted.specs.Programs.{Program, Always, fewest}
use Rattle.refuted.specs.Enumeration.{Enumerates, all_settings, FoundOnly, WayDown}

-- the program keeps List's promise
abbrev pub KeepsList : Program Setup → Type 0
KeepsList P = (g : Setup) (list scratch : List ℕ) → ListGives g.variables g.hard g.soft list scratch (P g list scratch)

-- it answers P4's list to all
abbrev pub AnswersP4 : Program Setup → Type 0
AnswersP4 = Always (λ g list scratch filled listed. listed ≡ P4-ways)

-- it finds the first way out, and repeats or varies it without search: what follows is made from that one and from everything but what the
-- settings are (the variable count, the hard bytes, the number of settings, the list buffer and the scratch)
abbrev pub VariesFirst : (ℕ → List ℕ → ℕ → List ℕ → List ℕ → ℕ → List ℕ) → Program Setup → Type 0
VariesFirst more =
    Always (λ g list scratch filled listed. (first : ℕ) × (listed ≡ first ∷ more g.variables g.hard (count g) list scratch first))

-- its list count is made up, from everything but what the settings are
abbrev pub MakesUpCount : (ℕ → List ℕ → ℕ → List ℕ → List ℕ → ℕ) → Program Setup → Type 0
MakesUpCount made = Always (λ g list scratch filled listed. filled ≡ made g.variables g.hard (count g) list scratch)

-- ---- the traps, in document 01's order

-- it lists what Algorithm 1 of document 000 gives out
abbrev pub ListsEnumerated : Program Setup → Type 0
ListsEnumerated = Always (λ g list scratch filled listed. (out : List ℕ) × Enumerates g out × ((S : ℕ) → Among S listed ↔ Among S out))

-- it blocks only the found set, so that larger sets are listed
abbrev pub BlocksFoundOnly : Program Setup → Type 0
BlocksFoundOnly = Always (λ g list scratch filled listed. (out : List ℕ) × FoundOnly g [] out × ((S : ℕ) → Among S listed ↔ Among S out))

-- it goes down from all the settings, one after the other in any order, keeps a block for every candidate on its way, and answers Listed
-- only where they fit the scratch that it needs, of room + 1 sets
abbrev pub KeepsCandidates : Program Setup → Type 0
KeepsCandidates = Always (λ g list scratch filled listed. (down : List ℕ) × WayDown g (all_settings g ∷ down) × (length (all_settings g ∷ down) ≤ length list + 1))

-- it lists only the ways out with the fewest settings
abbrev pub ListsFewest : Program Setup → Type 0
ListsFewest = Always (λ g list scratch filled listed. (ways : List ℕ) → Exactly (WayOut g) ways → listed ≡ fewest (count g) ways)

-- it reads selector 0 as "this setting is false", and gives it up without another ask: in the first model, 0 before 1, all selectors are 0
abbrev pub GivesUpUnset : Program Setup → Type 0
GivesUpUnset = Always (λ g list scratch filled listed. Among (all_settings g) listed)

-- it drops an equal setting: what the soft bytes hold twice counts once
abbrev pub DropsEqual : Program Setup → Type 0
DropsEqual P =
    (n : ℕ) (hard soft list scratch : List ℕ)
    → (let r = P (setup n hard (soft ++ soft)) list scratch in r.number ≡ finished → r ≡ P (setup n hard soft) list scratch)
