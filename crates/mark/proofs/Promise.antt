-- What Mark's promise says: there is no second result, each answer means what document 01 says; and programs that it rejects.
use mathlib.Core.Path.{◌≡◌, refl, sym, ap, ◌∙◌, subst}
use mathlib.Core.Logic.{◌≢◌}
use mathlib.Core.List.{List, [], ◌∷◌}
use Prim.Native.Nat.{ℕ, ◌<◌}
use native.Mathlib.Omega.{arith}
use borrow.Author.Tests.{eqb-true, eqb-false}
use lib.Dec.{eqb}
use lib.ListN.{length, get_or, drop, get_or-append}
use lib.Seq.{drop_at}
use Rattle.sets.specs.Marks.{mark, marks}
use Rattle.numbers.proofs.Deciding.{cond_case}
use Rattle.sets.proofs.Marks.{kept_iff, lost_iff, open_iff, marks_length, marks_at}
use Rattle.setups.specs.declared.Refusal.{Refusal}
use Rattle.setups.specs.Refusals.{finished}
use Rattle.setups.specs.Written.{written}
use Rattle.setups.specs.Mark.{MarkResult, mark_refusal, mark_result}
use Rattle.setups.proofs.Refusals.{number_only, refused_number}
use Rattle.std.specs.Prelude.{Result, Ok, Err}
use Rattle.mark.specs.Marking.{answered, Marks}
use Rattle.mark.specs.Meaning.{Fares, MarkMeans}

-- one result comes from one answer and one buffer
answered_only : (answer other : Result ℕ Refusal) (after later : List ℕ) → answered answer after ≡ answered other later → (answer ≡ other) × (after ≡ later)
answered_only (Ok n) (Ok m) after later e = (ap Ok (ap (λ (r : MarkResult). r.filled) e), ap (λ (r : MarkResult). r.marks) e)
answered_only (Ok n) (Err b) after later e = absurd (refused_number b (sym (ap (λ (r : MarkResult). r.number) e)))
answered_only (Err a) (Ok m) after later e = absurd (refused_number a (ap (λ (r : MarkResult). r.number) e))
answered_only (Err a) (Err b) after later e =
    (ap Err (number_only a b (ap (λ (r : MarkResult). r.number) e)), ap (λ (r : MarkResult). r.marks) e)

-- no second result
pub mark_only : (n : ℕ) (list places : List ℕ) (answer other : Result ℕ Refusal) (after later : List ℕ)
    → Marks n list places answer after → Marks n list places other later → (answer ≡ other) × (after ≡ later)
mark_only n list places answer other after later p q = answered_only answer other after later (p ∙ sym q)

-- ---- what each answer means

pub mark_means : (n : ℕ) (list places : List ℕ) → MarkMeans n list places (mark_refusal n list (length places)) (mark_result n list places)
unfolding mark_result
mark_means n list places = cond_case (MarkMeans n list places refusal) (eqb refusal 0) (λ e. marked (eqb-true refusal 0 e)) (λ e. refused (eqb-false refusal 0 e))
  where
    refusal : ℕ
    refusal = mark_refusal n list (length places)

    letter : (i : ℕ) → i < n → mark list i ≡ get_or (written (marks n list) places) i 0
    letter i l = sym (get_or-append (marks n list) (drop (length (marks n list)) places) 0 i (rw (marks_length n list) l) ∙ marks_at n list i l)

    marked : refusal ≡ 0 → MarkMeans n list places refusal (record { number = finished; filled = n; marks = written (marks n list) places })
    marked none = record {
      refused = λ some. absurd (some none);
      marked = ((λ e. none), λ e. refl);
      holds = λ e. record {
        filled = refl;
        letters = λ i l. subst (Fares list i) (letter i l) (record { keeps = kept_iff list i; loses = lost_iff list i; opens = open_iff list i });
        beyond = drop_at (marks n list) (drop (length (marks n list)) places) n (marks_length n list) ∙ rw (marks_length n list);
      };
    }

    refused : refusal ≢ 0 → MarkMeans n list places refusal (record { number = refusal; filled = 0; marks = places })
    refused some = record { refused = λ k. refl; marked = ((λ e. e), λ e. e); holds = λ e. absurd (some e) }

-- ---- rejected, over two settings, the list 1 and a buffer of three places

-- one that refuses everything
pub mark_not_refusing : (refusal : Refusal) (after : List ℕ) → ¬ Marks 2 (1 ∷ []) (0 ∷ 0 ∷ 0 ∷ []) (Err refusal) after
unfolding mark_result
mark_not_refusing refusal after p = refused_number refusal (ap (λ (r : MarkResult). r.number) p)

-- one that writes nothing
pub mark_not_silent : (answer : Result ℕ Refusal) → ¬ Marks 2 (1 ∷ []) (0 ∷ 0 ∷ 0 ∷ []) answer (0 ∷ 0 ∷ 0 ∷ [])
unfolding mark_result
mark_not_silent (Ok n) p = omega (arith, ap (λ (r : MarkResult). get_or r.marks 0 0) p)
mark_not_silent (Err refusal) p = mark_not_refusing refusal (0 ∷ 0 ∷ 0 ∷ []) p
