-- How clauses stand, a byte at a time: one clause, and all of a buffer.
use mathlib.Core.Path.{◌≡◌, refl}
use mathlib.Core.Bool.{Bool, true, false, ◌||◌}
use mathlib.Core.List.{List}
use Prim.Native.Nat.{ℕ, ◌≤◌, zero-le}
use native.Mathlib.Omega.{arith}
use lib.Dec.{eqb, ltb}
use lib.ListN.{length, drop}
use Rattle.setups.specs.Clauses.{clauses, wish, all_pass}
use Rattle.forcing.specs.Holding.{is_true}
use Rattle.forcing.specs.Standings.{looked}
use Rattle.forcing.specs.declared.standing.Chance.{Chance}
use Rattle.forcing.specs.declared.standing.Chance.TheVariants.{AllFalse, Possible, Sure}
use Rattle.forcing.proofs.Verdicts.{verdicts, all_of, verdict_all}

-- ---- a clause so far

-- it has a true literal
abbrev pub is_sure : Chance → Bool
is_sure AllFalse = false
is_sure Possible = false
is_sure Sure = true

-- it has a literal that is true or free
abbrev pub is_possible : Chance → Bool
is_possible AllFalse = false
is_possible Possible = true
is_possible Sure = true

-- what one literal more makes of it
pub looked_sure : (chance : Chance) (b x : ℕ) → is_sure (looked chance b x) ≡ (is_sure chance || eqb x (wish b))
looked_sure AllFalse b x = grind arith
looked_sure Possible b x = grind arith
looked_sure Sure b x = refl

pub looked_possible : (chance : Chance) (b x : ℕ) → is_possible (looked chance b x) ≡ (is_possible chance || (eqb x (wish b) || ltb 1 x))
looked_possible AllFalse b x = grind arith
looked_possible Possible b x = grind arith
looked_possible Sure b x = refl

-- ---- every clause has a true literal

-- at place i: the clauses from there on, of which the first is `sure` so far, decide for all
pub record Meeting (values hard : List ℕ) (sure : Bool) (i : ℕ) : Type 0 where
  pub upto : i ≤ length hard
  pub gives : all_of (verdicts (is_true values) sure (clauses (drop i hard))) ≡ all_pass (is_true values) (clauses hard)

pub meeting_starts : {values hard : List ℕ} {sure : Bool} → sure ≡ false → Meeting values hard sure 0
meeting_starts {values} {hard} e = rw e (record { upto = zero-le; gives = verdict_all (is_true values) (clauses hard) })
