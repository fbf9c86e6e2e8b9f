-- What is asked over a test of literals, and what a round of the rules, the choice of a literal and the search promise.
use Rattle.std.specs.Prelude.{◌≡◌, Bool, true, List, [], ◌∷◌, ℕ, ◌+◌, ◌≤◌, ◌<◌, T, get_or, Option, Some, None}
use Rattle.std.proofs.Common.{lit<}
use Rattle.sets.specs.Sets.{Within}
use Rattle.sets.specs.Tests.{has}
use Rattle.setups.specs.Clauses.{clauses, all_pass}
use Rattle.setups.specs.Searching.{free_count}
use Rattle.found.specs.FoundSets.{Each, Fit}
use Rattle.literals.specs.Slots.{slot, AllSet}
use Rattle.forcing.specs.Holding.{is_true, holds}
use Rattle.forcing.specs.Values.{AgreesWith}
use Rattle.forcing.specs.Standings.{Stands}
use Rattle.question.specs.declared.sought.Sought.{Sought}
use Rattle.question.specs.declared.seeking.Round.{Round}

-- the hard clauses pass, each kept setting holds, and of each found set one setting
pub record Fulfils (asked : Sought) (kept : ℕ) (test : ℕ → Bool) : Type 0 where
  pub rules : T (all_pass test (clauses asked.hard.now))
  pub fit : Fit kept asked.found.now (holds test asked.soft.now)

-- no assignment that agrees with the values is an answer
abbrev pub NoneAgrees : (List ℕ → Type 0) → List ℕ → Type 0
NoneAgrees Answer values = (m : List ℕ) → AllSet m → Answer m → ¬ AgreesWith values m

-- From the values and the kept settings to those of r: what meets what is asked and agrees with the values agrees with those of r and
-- makes its kept settings true. Where r has moved, fewer values are free or more settings are kept.
pub record AdvancesTo (asked : Sought) (kept : ℕ) (values : List ℕ) (r : Round) : Type 0 where
  pub less : free_count r.values ≤ free_count values
  pub grows : Within kept r.kept
  pub moves : r.moved ≡ true → free_count r.values + kept < free_count values + r.kept
  pub stands : Stands r.values asked.soft.now r.standing
  pub stays : (m : List ℕ) → AllSet m → Fulfils asked kept (is_true m) → AgreesWith values m
      → AgreesWith r.values m × Each r.kept (holds (is_true m) asked.soft.now)

-- None only where nothing that agrees with the values meets what is asked
abbrev pub Advances : Sought → ℕ → List ℕ → Option Round → Type 0
Advances asked kept values (Some r) = AdvancesTo asked kept values r
Advances asked kept values None = NoneAgrees (λ m. Fulfils asked kept (is_true m)) values

-- what is asked is met so far: the settings that are true already suffice
pub record Done (asked : Sought) (r : Round) : Type 0 where
  pub rules : T (all_pass (is_true r.values) (clauses asked.hard.now))
  pub fit : Fit r.kept asked.found.now (has r.standing.sure)

-- the variable is free; there is none only where no variable is free
abbrev pub Chosen : List ℕ → Option ℕ → Type 0
Chosen values (Some b) = 1 < get_or values (slot b) 0
Chosen values None = AllSet values

-- variable 1 is 0, variable 2 is free: −2 may be chosen
example_chosen : Chosen (0 ∷ 2 ∷ []) (Some 130)
example_chosen = lit< tt

-- What a search from the values tells: every assignment that agrees with those it gives is an answer, and it gives none only where no
-- assignment that agrees with the values is one.
abbrev pub Seeks : (List ℕ → Type 0) → List ℕ → Option (List ℕ) → Type 0
Seeks Answer values (Some r) = (m : List ℕ) → AgreesWith r m → Answer m
Seeks Answer values None = NoneAgrees Answer values
