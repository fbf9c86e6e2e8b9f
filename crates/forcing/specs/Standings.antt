-- How clauses and settings stand under values of which some are free.
use Rattle.std.specs.Prelude.{◌≡◌, refl, cond, List, ℕ, eqb, ltb}
use Rattle.sets.specs.Tests.{has}
use Rattle.setups.specs.Clauses.{wish}
use Rattle.forcing.specs.Holding.{is_true, may_be, holds}
use Rattle.forcing.specs.declared.standing.Chance.{Chance}
use Rattle.forcing.specs.declared.standing.Chance.TheVariants.{AllFalse, Possible, Sure}
use Rattle.forcing.specs.declared.standing.Standing.{Standing}

-- the clause so far with one literal more, whose variable has the value x
abbrev pub looked : Chance → ℕ → ℕ → Chance
looked AllFalse b x = cond (eqb x (wish b)) Sure (cond (ltb 1 x) Possible AllFalse)
looked Possible b x = cond (eqb x (wish b)) Sure Possible
looked Sure b x = Sure

-- a free literal, 2: the clause may become true
example_looked : looked AllFalse 2 2 ≡ Possible
example_looked = refl

-- `sure` is the set of the settings that are true so far, `possible` of those that are true so far or may become so
pub record Stands (values soft : List ℕ) (r : Standing) : Type 0 where
  pub sure : (i : ℕ) → has r.sure i ≡ holds (is_true values) soft i
  pub possible : (i : ℕ) → has r.possible i ≡ holds (may_be values) soft i
