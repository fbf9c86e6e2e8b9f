-- What the promise means: where the outcome is 00 or 80, the 40 lines are exactly the ways out and the 50 lines exactly the clashes of
-- the setup that the text says.
use mathlib.Core.Path.{◌≡◌, refl, sym, subst}
use mathlib.Core.Logic.{◌⊎◌, inl, inr, ⊎_elim, ◌≢◌, by_cases}
use mathlib.Core.Bool.{◌||◌}
use mathlib.Core.List.{List, [], ◌∷◌}
use Prim.Native.Nat.{ℕ, ◌≤◌, zero-le}
use native.Mathlib.Decide.{ℕ_discrete}
use native.Mathlib.Omega.{arith}
use borrow.Author.Tests.{eqb-true, eqb-false}
use lib.Dec.{ltb, eqb}
use lib.ListN.{length, drop}
use lib.Seq.{take_at}
use Rattle.numbers.proofs.Deciding.{cond_case}
use Rattle.sets.proofs.Turning.{turn_unique}
use Rattle.setups.specs.declared.Refusal.TheVariants.{Size, Frame, Room}
use Rattle.setups.specs.Limits.{hard_bytes_most, soft_bytes_most, sets_most}
use Rattle.setups.specs.Setups.{Setup, setup, count, Together}
use Rattle.setups.specs.Refusals.{finished, unmet}
use Rattle.setups.specs.List.{list_refusal}
use Rattle.setups.specs.GivenOut.{ListResult, listed_sets}
use Rattle.setups.specs.Turn.{turn_refusal, TurnGives}
use Rattle.setups.proofs.Duality.{clashes_turned, clashes_exist, unmet_ways_out, unmet_clashes}
use Rattle.setups.proofs.GivenOut.{number_so}
use Rattle.setups.proofs.Refusals.{check_most}
use Rattle.list.specs.Meaning.{ListMeans}
use Rattle.list.proofs.Promise.{list_means}
use Rattle.turn.proofs.Promise.{turn_most, turn_means}
use Rattle.read.specs.Texts.{good, judge, is_bad, hard_of, soft_of}
use Rattle.read.specs.Read.{ReadResult, text_most, read_refusal, read_result}
use Rattle.read.proofs.Promise.{read_gives, read_accepts}
use Rattle.lines.specs.Lines.{answer_lines}
use Rattle.resolve.specs.Resolve.{places, scratch_places, reading, setup_read, turned_lines, Answers, Resolves}
use Rattle.resolve.specs.Meaning.{Resolved, ResolvesText, RefusesText}

-- ---- no refusal has the number of Unmet

turn_not_unmet : (n : ℕ) (given list scratch : List ℕ) (r : ListResult) → TurnGives n given list scratch r → r.number ≢ unmet
turn_not_unmet n given list scratch r p u =
    let means = turn_means n given list scratch r p in
    by_cases (ℕ_discrete (turn_refusal n given (length list) (length scratch)) 0)
    (λ z. ⊎_elim (λ f. let b : ⊥ = omega arith in b) (λ m. let b : ⊥ = omega arith in b) (means.gives.either z))
    (λ some. let b : ⊥ = omega (arith, (turn_most n given (length list) (length scratch)).0, number_so (means.refused some)) in b)

-- ---- what Read has read

-- the setup that the text says, which Read has filled its places with
pub record Said (text : List ℕ) (r : ReadResult) : Type 0 where
  pub variables : ℕ
  pub hard : List ℕ
  pub soft : List ℕ
  pub said : judge text ≡ good variables hard soft
  pub same : setup_read r ≡ setup variables hard soft

module _ (text hard soft : List ℕ) where
  pub read_small : (read_result text hard soft).number ≤ 12
  unfolding read_result
  read_small =
      cond_case (λ (r : ReadResult). r.number ≤ 12) (eqb (read_refusal text (length hard) (length soft)) 0) (λ e. zero-le)
      (λ e. check_most 12 (ltb text_most (length text)) Size _ (omega arith)
      (check_most 12 (is_bad (judge text)) Frame _ (omega arith)
      (check_most 12 (ltb (length hard) (length (hard_of (judge text))) || ltb (length soft) (length (soft_of (judge text)))) Room 0 (omega arith) zero-le)))

  pub read_said : (read_result text hard soft).number ≡ finished → Said text (read_result text hard soft)
  read_said done =
      let accepted = (read_accepts text hard soft).0 done in
      let held = accepted.1 in
      record {
        variables = held.count;
        hard = held.h;
        soft = held.s;
        said = held.says;
        same = rw (read_gives text hard soft accepted.0 held, take_at held.h (drop (length held.h) hard) (length held.h) refl, take_at held.s (drop (length held.s) soft) (length held.s) refl);
      }

-- ---- the lines that answer a setup

-- with the outcome 00 or 80 they resolve it, else they are a refusal's
abbrev Ended : Setup → List ℕ → Type 0
Ended g lines = ((outcome : ℕ) × ((outcome ≡ finished) ⊎ (outcome ≡ unmet)) × Resolved g outcome lines) ⊎ RefusesText lines

-- under Unmet there is no way out, and the empty set is the only clash
unmet_resolved : (g : Setup) → ¬ Together g 0 → Resolved g unmet (answer_lines unmet [] (0 ∷ []))
unmet_resolved g none = record {
  ways = [];
  clashes = 0 ∷ [];
  says = refl;
  ways_out = unmet_ways_out g none;
  all_clashes = unmet_clashes g none;
}

module _ (g : Setup) (lines : List ℕ) (p : Answers g lines) where
  means : ListMeans g (list_refusal g.variables g.hard g.soft (length (places sets_most)) (length (places scratch_places))) (places sets_most) (places scratch_places) p.found
  means = list_means g.variables g.hard g.soft (places sets_most) (places scratch_places) p.found p.lists

  after_turn : p.found.number ≡ finished → lines ≡ turned_lines (listed_sets p.found) p.turned → Ended g lines
  after_turn done =
      cond_case (λ (x : List ℕ). lines ≡ x → Ended g lines) (eqb p.turned.number finished)
      (λ e q.
      let ways = (means.gives.holds done).sets in
      let turned = ((turn_means (count g) (listed_sets p.found) (places sets_most) p.found.scratch p.turned p.turns).gives.holds (eqb-true p.turned.number finished e)).sets in
      let clashes = clashes_exist g in
      let same = turn_unique (count g) (listed_sets p.found) (listed_sets p.turned) clashes.0 turned (clashes_turned g (listed_sets p.found) clashes.0 ways clashes.1) in
      inl (
        finished,
        inl refl,
        record { ways = listed_sets p.found; clashes = listed_sets p.turned; says = q; ways_out = ways; all_clashes = rw same clashes.1 },
      ))
      (λ e q. inr (record {
        number = p.turned.number;
        not_finished = eqb-false p.turned.number finished e;
        not_unmet = turn_not_unmet (count g) (listed_sets p.found) (places sets_most) p.found.scratch p.turned p.turns;
        says = q;
      }))

  pub answers_mean : Ended g lines
  answers_mean =
      cond_case (λ (x : List ℕ). lines ≡ x → Ended g lines) (eqb p.found.number finished) (λ e q. after_turn (eqb-true p.found.number finished e) q)
      (λ e. cond_case (λ (x : List ℕ). lines ≡ x → Ended g lines) (eqb p.found.number unmet)
      (λ u q. inl (unmet, inr refl, subst (Resolved g unmet) (sym q) (unmet_resolved g (means.fails.0 (eqb-true p.found.number unmet u)).1)))
      (λ u q. inr (record { number = p.found.number; not_finished = eqb-false p.found.number finished e; not_unmet = eqb-false p.found.number unmet u; says = q })))
      p.says

-- ---- the theorem

-- whatever is put out for a text either resolves the setup that the text says, with the outcome 00 or 80, or is a refusal's last line
pub resolves_means : (text lines : List ℕ) → Resolves text lines → ResolvesText text lines ⊎ RefusesText lines
resolves_means text lines p =
    cond_case (λ (x : List ℕ). lines ≡ x → ResolvesText text lines ⊎ RefusesText lines) (eqb (reading text).number finished)
    (λ e q.
    let s = read_said text (places hard_bytes_most) (places soft_bytes_most) (eqb-true (reading text).number finished e) in
    let ended : Ended (setup s.variables s.hard s.soft) lines = subst (λ (g : Setup). Ended g lines) s.same (subst (Ended (setup_read (reading text))) (sym q) (answers_mean (setup_read (reading text)) p.answer p.answers)) in
    ⊎_elim (λ h. inl (record { variables = s.variables; hard = s.hard; soft = s.soft; said = s.said; outcome = h.0; ends = h.1; resolved = h.2 })) (λ r. inr r) ended)
    (λ e q.
    let most = read_small text (places hard_bytes_most) (places soft_bytes_most) in
    inr (record {
      number = (reading text).number;
      not_finished = eqb-false (reading text).number finished e;
      not_unmet = λ u. let z : ⊥ = omega (arith, most, u) in z;
      says = q;
    }))
    p.says
