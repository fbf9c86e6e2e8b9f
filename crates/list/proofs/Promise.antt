-- What follows from List's promise: some result meets it and no second one does, and each answer means what document 01 says.
use mathlib.Core.Path.{◌≡◌, refl, sym, ap, ◌∙◌}
use mathlib.Core.Logic.Iff
use mathlib.Core.Logic.{⊎_elim, ◌≢◌}
use mathlib.Core.Bool.{true, false}
use mathlib.Core.List.{List}
use Rattle.std.specs.Prelude.{Result, Ok, Err}
use Prim.Native.Nat.{ℕ}
use native.Mathlib.Omega.{arith}
use lib.Dec.{eqb}
use lib.ListN.{length}
use borrow.Author.Tests.{eqb-true, eqb-false}
use Rattle.numbers.proofs.Deciding.{T-equal, T_true, T_false, cond_case}
use Rattle.sets.proofs.Lists.{exactly_unique}
use Rattle.setups.specs.declared.Refusal.{Refusal}
use Rattle.setups.specs.Refusals.{unmet}
use Rattle.setups.specs.Setups.{Setup, setup, Together, WayOut}
use Rattle.setups.specs.Tests.{together}
use Rattle.setups.specs.List.{list_refusal, listed_result, ListGives}
use Rattle.setups.specs.GivenOut.{ListResult, without_list, zeroed, given_out, GivesExactly}
use Rattle.setups.proofs.Duality.{ways_out_exist}
use Rattle.setups.proofs.GivenOut.{number_so, filled_so, list_so, scratch_so, gives_nothing, gives_exactly}
use Rattle.setups.proofs.JudgeLaws.{list_most}
use Rattle.setups.proofs.Refusals.{number_only, refused_number, refused_not_unmet}
use Rattle.setups.proofs.Tests.{together_iff}
use Rattle.list.specs.declared.Listing.{Listing}
use Rattle.list.specs.declared.Listing.TheVariants.{Listed, Unmet}
use Rattle.list.specs.Listing.{answered, Lists}
use Rattle.list.specs.Meaning.{ListMeans}

-- ---- a result, and no second one

pub lists_exist : (n : ℕ) (hard soft list scratch : List ℕ) → (r : ListResult) × ListGives n hard soft list scratch r
lists_exist n hard soft list scratch =
    let g = setup n hard soft in
    let ways = ways_out_exist g in (
      listed_result (list_refusal n hard soft (length list) (length scratch)) (together g 0) ways.0 list scratch,
      record { ways = ways.0; exact = ways.1; met = together g 0; meets = together_iff g 0; says = refl },
    )

pub list_result_only : (n : ℕ) (hard soft list scratch : List ℕ) (r s : ListResult) → ListGives n hard soft list scratch r → ListGives n hard soft list scratch s
    → r ≡ s
list_result_only n hard soft list scratch r s p q = p.says ∙ rw (ways, met) (sym q.says)
  where
    ways : p.ways ≡ q.ways
    ways = exactly_unique (WayOut (setup n hard soft)) p.ways q.ways p.exact q.exact

    met : p.met ≡ q.met
    met = T-equal p.met q.met (Iff.trans p.meets (Iff.symm q.meets))

-- one result comes from one answer and two buffers
answered_only : (answer other : Result Listing Refusal) (list scratch list_too scratch_too : List ℕ) → answered answer list scratch ≡ answered other list_too scratch_too
    → (answer ≡ other) × (list ≡ list_too) × (scratch ≡ scratch_too)
answered_only (Ok (Listed k)) (Ok (Listed j)) list scratch list_too scratch_too e = (ap (λ k. Ok (Listed k)) (filled_so e), list_so e, scratch_so e)
answered_only (Ok (Listed k)) (Ok Unmet) list scratch list_too scratch_too e = absurd (let b : ⊥ = omega (arith, number_so e) in b)
answered_only (Ok (Listed k)) (Err b) list scratch list_too scratch_too e = absurd (refused_number b (sym (number_so e)))
answered_only (Ok Unmet) (Ok (Listed j)) list scratch list_too scratch_too e = absurd (let b : ⊥ = omega (arith, number_so e) in b)
answered_only (Ok Unmet) (Ok Unmet) list scratch list_too scratch_too e = (refl, list_so e, scratch_so e)
answered_only (Ok Unmet) (Err b) list scratch list_too scratch_too e = absurd (refused_not_unmet b (sym (number_so e)))
answered_only (Err a) (Ok (Listed j)) list scratch list_too scratch_too e = absurd (refused_number a (number_so e))
answered_only (Err a) (Ok Unmet) list scratch list_too scratch_too e = absurd (refused_not_unmet a (number_so e))
answered_only (Err a) (Err b) list scratch list_too scratch_too e = (ap Err (number_only a b (number_so e)), list_so e, scratch_so e)

pub list_only : (n : ℕ) (hard soft list scratch : List ℕ) (answer other : Result Listing Refusal) (list_after scratch_after list_too scratch_too : List ℕ)
    → Lists n hard soft list scratch answer list_after scratch_after → Lists n hard soft list scratch other list_too scratch_too
    → (answer ≡ other) × (list_after ≡ list_too) × (scratch_after ≡ scratch_too)
list_only n hard soft list scratch answer other list_after scratch_after list_too scratch_too p q =
    answered_only answer other list_after scratch_after list_too scratch_too
    (list_result_only n hard soft list scratch (answered answer list_after scratch_after) (answered other list_too scratch_too) p q)

-- ---- what each answer means

pub list_means : (n : ℕ) (hard soft list scratch : List ℕ) (r : ListResult) → ListGives n hard soft list scratch r
    → ListMeans (setup n hard soft) (list_refusal n hard soft (length list) (length scratch)) list scratch r
list_means n hard soft list scratch r p =
    cond_case (λ (x : ListResult). r ≡ x → Meant) (eqb refusal 0)
    (λ e. cond_case (λ (x : ListResult). r ≡ x → Meant) p.met (given_out_lem (eqb-true refusal 0 e)) (no_model_lem (eqb-true refusal 0 e)))
    (λ e. refused (eqb-false refusal 0 e)) p.says
  where
    g : Setup
    g = setup n hard soft

    refusal : ℕ
    refusal = list_refusal n hard soft (length list) (length scratch)

    Meant : Type 0
    Meant = ListMeans g refusal list scratch r

    Passed : Type 0
    Passed = (refusal ≡ 0) × Together g 0

    refused : refusal ≢ 0 → r ≡ without_list refusal list scratch → Meant
    refused some q =
        let number : r.number ≡ refusal = number_so q in
        let most = list_most n hard soft (length list) (length scratch) in
        record {
          refused = λ k. q;
          fails = ((λ k. absurd (let b : ⊥ = omega arith in b)), λ h. absurd (some h.0));
          leaves = λ k. absurd (let b : ⊥ = omega arith in b);
          gives = gives_nothing Passed (WayOut g) list scratch (λ h. some h.0) r (λ k. some (sym number ∙ k)) (λ k. let b : ⊥ = omega arith in b);
        }

    no_model_lem : refusal ≡ 0 → p.met ≡ false → r ≡ without_list unmet list (zeroed scratch) → Meant
    no_model_lem none m q =
        let number : r.number ≡ unmet = number_so q in
        let not : ¬ Together g 0 = λ t. (T_false p.met).1 m (p.meets.1 t) in
        record {
          refused = λ some. absurd (some none);
          fails = ((λ k. (none, not)), λ h. number);
          leaves = λ k. q;
          gives = gives_nothing Passed (WayOut g) list scratch (λ h. not h.1) r (λ k. let b : ⊥ = omega arith in b) (λ k. let b : ⊥ = omega arith in b);
        }

    given_out_lem : refusal ≡ 0 → p.met ≡ true → r ≡ given_out p.ways list scratch → Meant
    given_out_lem none m q =
        let met : Together g 0 = p.meets.0 ((T_true p.met).1 m) in
        let gives : GivesExactly Passed (WayOut g) list scratch r = rw q (gives_exactly Passed (WayOut g) list scratch (none, met) p.ways p.exact) in
        let number : r.number ≢ unmet = λ k. ⊎_elim (λ f. let b : ⊥ = omega arith in b) (λ m. let b : ⊥ = omega arith in b) (gives.either (none, met)) in
        record {
          refused = λ some. absurd (some none);
          fails = ((λ k. absurd (number k)), λ h. absurd (h.1 met));
          leaves = λ k. absurd (number k);
          gives = gives;
        }
