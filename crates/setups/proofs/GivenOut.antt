-- What a job's result says of the sets that it gives out, for List and Turn alike.
use mathlib.Core.Path.{◌≡◌, refl, ap}
use mathlib.Core.Logic.{inl, inr, ◌≢◌}
use mathlib.Core.Bool.{true, false}
use mathlib.Core.List.{List}
use Prim.Native.Nat.{ℕ}
use native.Mathlib.Omega.{arith}
use lib.Dec.{ltb}
use lib.ListN.{length, drop}
use lib.Seq.{take-append_seam, drop-append_seam}
use borrow.Author.Tests.{ltb-true, ltb-false}
use Rattle.sets.specs.Lists.{Exactly}
use Rattle.numbers.proofs.Deciding.{cond_case}
use Rattle.sets.proofs.Lists.{exactly_unique}
use Rattle.setups.specs.declared.Refusal.TheVariants.{TooMany}
use Rattle.setups.specs.Refusals.{number_of, finished}
use Rattle.setups.specs.Written.{written}
use Rattle.setups.specs.GivenOut.{ListResult, without_list, zeroed, given_out, GivesExactly}

-- the parts of one result
pub number_so : {r s : ListResult} → r ≡ s → r.number ≡ s.number
number_so e = ap (λ (r : ListResult). r.number) e

pub filled_so : {r s : ListResult} → r ≡ s → r.filled ≡ s.filled
filled_so e = ap (λ (r : ListResult). r.filled) e

pub list_so : {r s : ListResult} → r ≡ s → r.list ≡ s.list
list_so e = ap (λ (r : ListResult). r.list) e

pub scratch_so : {r s : ListResult} → r ≡ s → r.scratch ≡ s.scratch
scratch_so e = ap (λ (r : ListResult). r.scratch) e

module _ (Passed : Type 0) (P : ℕ → Type 0) (list scratch : List ℕ) where
  -- what comes before has answered
  pub gives_nothing : ¬ Passed → (r : ListResult) → r.number ≢ finished → r.number ≢ number_of TooMany → GivesExactly Passed P list scratch r
  gives_nothing not r f m = record {
    either = λ h. absurd (not h);
    lists = ((λ e. absurd (f e)), λ h. absurd (not h.0));
    holds = λ e. absurd (f e);
    exceeds = ((λ e. absurd (m e)), λ h. absurd (not h.0));
    leaves = λ e. absurd (m e);
  }

  -- nothing has, and the sets are given out
  pub gives_exactly : Passed → (sets : List ℕ) → Exactly P sets → GivesExactly Passed P list scratch (given_out sets list scratch)
  gives_exactly passed sets exact = cond_case (GivesExactly Passed P list scratch) (ltb (length list) (length sets)) many few
    where
      same : (other : List ℕ) → Exactly P other → other ≡ sets
      same other o = exactly_unique P other sets o exact

      many : ltb (length list) (length sets) ≡ true → GivesExactly Passed P list scratch (without_list (number_of TooMany) list (zeroed scratch))
      many t =
          let l = ltb-true (length list) (length sets) t in
          record {
            either = λ h. inr refl;
            lists = ((λ e. absurd (let z : ⊥ = omega arith in z)), λ h. absurd (let z : ⊥ = omega (arith, l, rw (same h.1.0 h.1.1) at h.1.2) in z));
            holds = λ e. absurd (let z : ⊥ = omega arith in z);
            exceeds = ((λ e. (passed, (sets, exact, l))), λ h. refl);
            leaves = λ e. refl;
          }

      few : ltb (length list) (length sets) ≡ false
          → GivesExactly Passed P list scratch (record { number = finished; filled = length sets; list = written sets list; scratch = zeroed scratch })
      few t =
          let l = ltb-false (length list) (length sets) t in
          record {
            either = λ h. inl refl;
            lists = ((λ e. (passed, (sets, exact, l))), λ h. refl);
            holds = λ e. record {
              sets = rw (take-append_seam sets (drop (length sets) list)) exact;
              places = rw (take-append_seam sets (drop (length sets) list));
              room = l;
              beyond = drop-append_seam sets (drop (length sets) list);
              zeros = refl;
            };
            exceeds = ((λ e. absurd (let z : ⊥ = omega arith in z)), λ h. absurd (let z : ⊥ = omega (arith, l, rw (same h.1.0 h.1.1) at h.1.2) in z));
            leaves = λ e. absurd (let z : ⊥ = omega arith in z);
          }
