-- What List gives back, for all arguments (document 01, "Ways out and clashes" and "What comes back when it can't").
use Rattle.std.specs.Prelude.{◌≡◌, ◌↔◌, Bool, cond, ◌||◌, List, ℕ, T, ltb, leb, eqb, length}
use Rattle.sets.specs.Lists.{Exactly}
use Rattle.setups.specs.declared.Refusal.TheVariants.{Vars, Size, Work}
use Rattle.setups.specs.Limits.{variables_most, hard_bytes_most, soft_bytes_most, sets_most}
use Rattle.setups.specs.Setups.{setup, Together, WayOut}
use Rattle.setups.specs.Refusals.{unmet, check, clauses_refusal}
use Rattle.setups.specs.GivenOut.{ListResult, without_list, zeroed, given_out}

-- 1, 2, 3, 4, 5, 6, 7; 0 where none is given. Work: "scratch shorter than room + 1"
abbrev pub list_refusal : ℕ → List ℕ → List ℕ → ℕ → ℕ → ℕ
list_refusal n hard soft room scratch_room =
    check (ltb variables_most n) Vars
    (check (ltb hard_bytes_most (length hard) || (ltb soft_bytes_most (length soft) || ltb sets_most room)) Size
    (check (leb scratch_room room) Work (clauses_refusal n hard soft 0)))

abbrev pub listed_result : ℕ → Bool → List ℕ → List ℕ → List ℕ → ListResult
listed_result refusal met ways list scratch =
    cond (eqb refusal 0) (cond met (given_out ways list scratch) (without_list unmet list (zeroed scratch)))
    (without_list refusal list scratch)

-- The result r of List: `ways` are exactly the ways out, rising, and `met` tells whether the hard clauses have a model.
pub record ListGives (n : ℕ) (hard soft list scratch : List ℕ) (r : ListResult) : Type 0 where
  pub ways : List ℕ
  pub exact : Exactly (WayOut (setup n hard soft)) ways
  pub met : Bool
  pub meets : T met ↔ Together (setup n hard soft) 0
  pub says : r ≡ listed_result (list_refusal n hard soft (length list) (length scratch)) met ways list scratch
