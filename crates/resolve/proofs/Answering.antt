-- From what Read, List and Turn answer to the lines that are put out.
use Rattle.std.proofs.Common.{Result, Ok, Err}
use Rattle.std.specs.Result.{IsErrAnd}
use mathlib.Core.Path.{◌≡◌, refl, ap, subst}
use mathlib.Core.Bool.{false, cond}
use mathlib.Core.List.{List, [], ◌∷◌}
use Prim.Native.Nat.{ℕ}
use borrow.Author.Tests.{ne_eqb}
use lib.Dec.{eqb}
use lib.ListN.{take}
use Rattle.setups.specs.declared.Refusal.{Refusal}
use Rattle.setups.specs.Limits.{sets_most}
use Rattle.setups.specs.Setups.{setup, count}
use Rattle.setups.specs.Refusals.{number_of, finished, unmet}
use Rattle.setups.specs.List.{ListGives}
use Rattle.setups.specs.GivenOut.{ListResult, listed_sets}
use Rattle.setups.specs.Turn.{TurnGives}
use Rattle.setups.proofs.Refusals.{refused_number, refused_not_unmet}
use Rattle.list.proofs.Promise.{lists_exist}
use Rattle.list.specs.Listing.{answered as list_answered}
use Rattle.list.specs.declared.Listing.{Listing}
use Rattle.list.specs.declared.Listing.TheVariants.{Listed, Unmet}
use Rattle.turn.proofs.Promise.{turns_exist}
use Rattle.turn.specs.Turning.{answered as turn_answered}
use Rattle.read.specs.declared.ReadSetup.{ReadSetup}
use Rattle.read.specs.Read.{ReadResult}
use Rattle.read.specs.Reading.{answered as read_answered}
use Rattle.lines.specs.Lines.{answer_lines, refusal_lines}
use Rattle.resolve.specs.Resolve.{places, scratch_places, reading, setup_read, listed_lines, Answers, Resolves}
use Rattle.resolve.specs.Code.Parts.{AnswersTurn, PutsOrRefuses}

-- ---- what is put out

-- what is so makes other lines so
pub puts_along : (Are Be : List ℕ → Type 0) → ((lines : List ℕ) → Are lines → Be lines) → (result : Result ℕ Refusal) (output after : List ℕ)
    → PutsOrRefuses Are result output after → PutsOrRefuses Be result output after
puts_along Are Be f (Ok filled) output after p = (p.0, f p.0 p.1, p.2)
puts_along Are Be f (Err refusal) output after p = (f (refusal_lines (number_of refusal)) p.0, p.1)

-- a refusal is passed on, and nothing is put out
pub passes_on : (Are : List ℕ → Type 0) (refusal : Refusal) (result : Result ℕ Refusal) (output : List ℕ) → IsErrAnd result (λ given. given ≡ refusal)
    → Are (refusal_lines (number_of refusal)) → PutsOrRefuses Are result output output
passes_on Are refusal (Ok filled) output given p = elim given [ ]
passes_on Are refusal (Err other) output given p = (rw given p, refl)

-- ---- after Turn

not_finished : (refusal : Refusal) → eqb (number_of refusal) finished ≡ false
not_finished refusal = ne_eqb (number_of refusal) finished (refused_number refusal)

not_unmet : (refusal : Refusal) → eqb (number_of refusal) unmet ≡ false
not_unmet refusal = ne_eqb (number_of refusal) unmet (refused_not_unmet refusal)

module _ (n : ℕ) (ways scratch : List ℕ) (answer : Result ℕ Refusal) (list' scratch' : List ℕ) (p : TurnGives n ways (places sets_most) scratch (turn_answered answer list' scratch')) where
  pub turn_refused : (refusal : Refusal) → answer ≡ Err refusal → AnswersTurn n ways scratch (refusal_lines (number_of refusal))
  turn_refused refusal e = record { turned = turn_answered (Err refusal) list' scratch'; turns = rw e at p; says = rw (not_finished refusal) }

-- ---- after List

module _ (n : ℕ) (hard soft : List ℕ) (answer : Result Listing Refusal) (list' scratch' : List ℕ)
    (p : ListGives n hard soft (places sets_most) (places scratch_places) (list_answered answer list' scratch')) where
  -- where List lists nothing, Turn's result is asked for all the same, and not used
  without : (found : ListResult) → ListGives n hard soft (places sets_most) (places scratch_places) found → (lines : List ℕ)
      → ((turned : ListResult) → lines ≡ listed_lines found turned) → Answers (setup n hard soft) lines
  without found q lines says =
      let turned = turns_exist (count (setup n hard soft)) (listed_sets found) (places sets_most) found.scratch in
      record { found = found; lists = q; turned = turned.0; turns = turned.1; says = says turned.0 }

  pub list_refused : (refusal : Refusal) → answer ≡ Err refusal → Answers (setup n hard soft) (refusal_lines (number_of refusal))
  list_refused refusal e =
      without (list_answered (Err refusal) list' scratch') (rw e at p) (refusal_lines (number_of refusal)) (λ turned. rw (not_finished refusal, not_unmet refusal))

  pub list_unmet : answer ≡ Ok Unmet → Answers (setup n hard soft) (answer_lines unmet [] (0 ∷ []))
  list_unmet e = without (list_answered (Ok Unmet) list' scratch') (rw e at p) (answer_lines unmet [] (0 ∷ [])) (λ turned. refl)

  pub list_listed : (filled : ℕ) → answer ≡ Ok (Listed filled) → (settings : ℕ) → settings ≡ count (setup n hard soft) → (lines : List ℕ)
      → AnswersTurn settings (take filled list') scratch' lines → Answers (setup n hard soft) lines
  list_listed filled e settings s lines a = record {
    found = list_answered (Ok (Listed filled)) list' scratch';
    lists = rw e at p;
    turned = a.turned;
    turns = let t = a.turns in rw s at t;
    says = a.says;
  }

-- ---- after Read

module _ (text : List ℕ) (answer : Result ReadSetup Refusal) (hard soft : List ℕ) (p : read_answered answer hard soft ≡ reading text) where
  pub read_refused : (refusal : Refusal) → answer ≡ Err refusal → Resolves text (refusal_lines (number_of refusal))
  read_refused refusal e =
      let r : read_answered (Err refusal) hard soft ≡ reading text = rw e at p in
      let g = setup_read (reading text) in
      let found = lists_exist g.variables g.hard g.soft (places sets_most) (places scratch_places) in
      let turned = turns_exist (count g) (listed_sets found.0) (places sets_most) found.0.scratch in
      let so : number_of refusal ≡ (reading text).number = ap (λ (x : ReadResult). x.number) r in
      record {
        answer = listed_lines found.0 turned.0;
        answers = record { found = found.0; lists = found.1; turned = turned.0; turns = turned.1; says = refl };
        says = subst (λ (k : ℕ). refusal_lines (number_of refusal) ≡ cond (eqb k finished) (listed_lines found.0 turned.0) (refusal_lines k)) so (rw (not_finished refusal));
      }

  pub read_read : (s : ReadSetup) → answer ≡ Ok s → (lines : List ℕ)
      → Answers (setup s.count (take s.hard_filled hard) (take s.soft_filled soft)) lines → Resolves text lines
  read_read s e lines a =
      let r : read_answered (Ok s) hard soft ≡ reading text = rw e at p in
      record {
        answer = lines;
        answers = subst (λ (x : ReadResult). Answers (setup_read x) lines) r a;
        says = subst (λ (x : ReadResult). lines ≡ cond (eqb x.number finished) lines (refusal_lines x.number)) r refl;
      }
