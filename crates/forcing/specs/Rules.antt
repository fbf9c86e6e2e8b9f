-- What every rule that forces values promises: no answer is lost.
use Rattle.std.specs.Prelude.{◌≡◌, refl, Bool, true, false, List, [], ◌∷◌, ℕ, ◌≤◌, ◌<◌, get_or, T, Option, Some, None}
use Rattle.setups.specs.Searching.{free_count}
use Rattle.setups.specs.declared.Seen.{Seen}
use Rattle.setups.specs.declared.Seen.TheVariants.{AllFalse, OneFree, Enough}
use Rattle.literals.specs.Slots.{slot, AllSet}
use Rattle.forcing.specs.Holding.{is_true}
use Rattle.forcing.specs.Values.{AgreesWith}
use Rattle.forcing.specs.declared.forcing.Progress.{Progress}

abbrev pub unmoved : List ℕ → Progress
unmoved values = record { moved = false; values = values }

-- From `now` to r: an answer that agrees with the values of `now` agrees with those of r. Where r has moved and `now` has not, fewer
-- values are free.
pub record Keeps (Answer : List ℕ → Type 0) (now r : Progress) : Type 0 where
  pub less : free_count r.values ≤ free_count now.values
  pub moves : now.moved ≡ false → r.moved ≡ true → free_count r.values < free_count now.values
  pub stays : (m : List ℕ) → AllSet m → Answer m → AgreesWith now.values m → AgreesWith r.values m

-- a rule fails only where no answer agrees with the values of `now`
abbrev pub KeepsAnswers : (List ℕ → Type 0) → Progress → Option Progress → Type 0
KeepsAnswers Answer now (Some r) = Keeps Answer now r
KeepsAnswers Answer now None = (m : List ℕ) → AllSet m → Answer m → ¬ AgreesWith now.values m

-- what a clause so far says of the truth t, under m, of the literals that it has seen
abbrev pub Sees : List ℕ → Seen → Bool → Type 0
Sees m AllFalse t = t ≡ false
Sees m (OneFree b) t = t ≡ is_true m b
Sees m Enough t = Unit {0}

-- one free literal, 2: the clause is true under 0, 1
example_sees : Sees (0 ∷ 1 ∷ []) (OneFree 2) true
example_sees = refl

-- its one free literal is free
abbrev pub StillFree : List ℕ → Seen → Type 0
StillFree values AllFalse = Unit {0}
StillFree values (OneFree b) = 1 < get_or values (slot b) 0
StillFree values Enough = Unit {0}

-- under m the clause that ends is true
abbrev pub EndsTrue : List ℕ → Seen → Type 0
EndsTrue m seen = (t : Bool) × Sees m seen t × T t
