-- Write's refusals: what a setup has that passes them all, and the answer that each leads to.
use mathlib.Core.Path.{◌≡◌, refl, sym, ◌∙◌}
use mathlib.Core.Bool.{Bool, true, not, ◌||◌}
use mathlib.Core.List.{List, ◌++◌}
use Prim.Native.Nat.{ℕ, ◌+◌, ◌≤◌, ◌<◌}
use borrow.Author.Tests.{lt-ltb, le-ltb, ltb-false, eqb-true, ne_eqb}
use native.Mathlib.Omega.{arith}
use lib.Dec.{ltb, eqb}
use lib.ListN.{length, drop}
use lib.Seq.{sets}
use Rattle.numbers.proofs.Deciding.{cond_case, neither}
use Rattle.std.proofs.Common.{Ok, Err}
use Rattle.setups.specs.declared.Refusal.{Refusal}
use Rattle.setups.specs.declared.Refusal.TheVariants.{Vars, Size, Literal, Tail, Long, Softs, Room}
use Rattle.setups.specs.Limits.{variables_most, hard_bytes_most, soft_bytes_most, settings_most}
use Rattle.setups.specs.Clauses.{clauses}
use Rattle.setups.specs.Setups.{settings}
use Rattle.setups.specs.Refusals.{number_of, finished, check, no_clause_byte, offends, ended, long, clauses_refusal}
use Rattle.setups.proofs.Refusals.{refused_number, check_none}
use Rattle.setups.proofs.JudgeLaws.{FineClauses, fine_clauses}
use Rattle.digits.proofs.Stores.{sets_front}
use Rattle.write.specs.declared.JudgedSetup.{JudgedSetup}
use Rattle.write.specs.SetupText.{literal_count, setup_text, text_length}
use Rattle.write.specs.Write.{WriteResult, setup_refusal, write_refusal, write_result}
use Rattle.write.specs.Writing.{answered}
use Rattle.write.proofs.ClauseLines.{literals_and_ends, written_length, measured, setup_stored}

-- ---- a setup that passes

-- what a setup has that no refusal stops
pub record Fine (n : ℕ) (hard soft : List ℕ) : Type 0 where
  pub variables : n ≤ variables_most
  pub hard_size : length hard ≤ hard_bytes_most
  pub soft_size : length soft ≤ soft_bytes_most
  pub in_clauses : FineClauses n hard soft

pub fine : (n : ℕ) (hard soft : List ℕ) (rest : ℕ) → setup_refusal n hard soft rest ≡ 0 → Fine n hard soft
fine n hard soft rest e =
    let vars = check_none (ltb variables_most n) Vars _ e in
    let size = check_none (ltb hard_bytes_most (length hard) || ltb soft_bytes_most (length soft)) Size (clauses_refusal n hard soft rest) vars.1 in
    let sizes = neither (ltb hard_bytes_most (length hard)) (ltb soft_bytes_most (length soft)) size.0 in
    record {
      variables = ltb-false variables_most n vars.0;
      hard_size = ltb-false hard_bytes_most (length hard) sizes.0;
      soft_size = ltb-false soft_bytes_most (length soft) sizes.1;
      in_clauses = fine_clauses n hard soft rest size.1;
    }

pub ended_hard : (s : JudgedSetup) → ended s.hard.now ≡ true
ended_hard s = (fine s.count s.hard.now s.soft.now 0 s.passes).in_clauses.hard_ended

pub ended_soft : (s : JudgedSetup) → ended s.soft.now ≡ true
ended_soft s = (fine s.count s.hard.now s.soft.now 0 s.passes).in_clauses.soft_ended

-- then every byte is a literal of some clause, or ends one
pub hard_bytes : (s : JudgedSetup) → length (clauses s.hard.now) + literal_count (clauses s.hard.now) ≡ length s.hard.now
hard_bytes s = omega (arith, literals_and_ends s.hard.now (ended_hard s))

pub soft_bytes : (s : JudgedSetup) → length (clauses s.soft.now) + literal_count (clauses s.soft.now) ≡ length s.soft.now
soft_bytes s = omega (arith, literals_and_ends s.soft.now (ended_soft s))

pub hard_most : (s : JudgedSetup) → length s.hard.now ≤ hard_bytes_most
hard_most s = (fine s.count s.hard.now s.soft.now 0 s.passes).hard_size

pub soft_most : (s : JudgedSetup) → length s.soft.now ≤ soft_bytes_most
soft_most s = (fine s.count s.hard.now s.soft.now 0 s.passes).soft_size

pub ruleset sizes = (hard_bytes, soft_bytes, hard_most, soft_most)

-- what its text needs to be put
pub ruleset stores = (ended_hard, ended_soft, written_length, setup_stored)

-- what comes after the refusals is what a setup gets that passes them
go_on : (test : Bool) (refusal : Refusal) (after : ℕ → ℕ) → (after 0 ≡ 0 → (rest : ℕ) → rest ≡ after rest) → check test refusal (after 0) ≡ 0 → (rest : ℕ) → rest ≡ check test refusal (after rest)
go_on test refusal after h e rest =
    let p = check_none test refusal (after 0) e in
    h p.1 rest ∙ rw p.0

passed : (s : JudgedSetup) (rest : ℕ) → rest ≡ setup_refusal s.count s.hard.now s.soft.now rest
passed s =
    let n = s.count in
    let hard = s.hard.now in
    let soft = s.soft.now in
    let softs = λ (r : ℕ). check (ltb settings_most (length (settings soft))) Softs r in
    let long_on = λ (r : ℕ). check (long hard || long soft) Long (softs r) in
    let tail_on = λ (r : ℕ). check (not (ended hard) || not (ended soft)) Tail (long_on r) in
    let size = ltb hard_bytes_most (length hard) || ltb soft_bytes_most (length soft) in
    go_on (ltb variables_most n) Vars (λ r. check size Size (clauses_refusal n hard soft r))
    (go_on size Size (clauses_refusal n hard soft)
    (go_on (offends (no_clause_byte n) hard || offends (no_clause_byte n) soft) Literal tail_on
    (go_on (not (ended hard) || not (ended soft)) Tail long_on
    (go_on (long hard || long soft) Long softs
    (go_on (ltb settings_most (length (settings soft))) Softs (λ r. r) (λ _ r. refl)))))) s.passes

-- ---- from the judgement to Write's answer

module _ (n : ℕ) (hard soft text : List ℕ) where
  refused : (refusal : Refusal) → number_of refusal ≡ write_refusal n hard soft (length text) → answered (Err refusal) text ≡ write_result n hard soft text
  unfolding write_result
  refused refusal e = rw (← e, ne_eqb (number_of refusal) 0 (refused_number refusal))

  pub unfit : (refusal : Refusal) → ((rest : ℕ) → number_of refusal ≡ setup_refusal n hard soft rest) → answered (Err refusal) text ≡ write_result n hard soft text
  unfit refusal h = refused refusal (h (check (ltb (length text) (text_length hard soft)) Room 0))

  -- Write finishes where it refuses nothing
  pub not_refused : (write_result n hard soft text).number ≡ finished → write_refusal n hard soft (length text) ≡ 0
  unfolding write_result
  not_refused e =
      let refusal = write_refusal n hard soft (length text) in
      cond_case (λ (w : WriteResult). w.number ≡ finished → refusal ≡ 0) (eqb refusal 0) (λ q _. eqb-true refusal 0 q) (λ _ k. k) e

  pub finishes : write_refusal n hard soft (length text) ≡ 0 → write_result n hard soft text ≡ record { number = finished; filled = text_length hard soft; text = setup_text n hard soft ++ drop (length (setup_text n hard soft)) text }
  unfolding write_result
  finishes e = rw e

-- a setup that passes what is judged
module _ (s : JudgedSetup) (text : List ℕ) where
  pub no_room : length text < text_length s.hard.now s.soft.now → answered (Err Room) text ≡ write_result s.count s.hard.now s.soft.now text
  no_room l =
      refused s.count s.hard.now s.soft.now text Room
      (rw (← passed s (check (ltb (length text) (text_length s.hard.now s.soft.now)) Room 0), lt-ltb (length text) (text_length s.hard.now s.soft.now) l))

  pub wrote : (filled : ℕ) (after : List ℕ) → filled ≡ text_length s.hard.now s.soft.now → filled ≤ length text → after ≡ sets text 0 (setup_text s.count s.hard.now s.soft.now)
      → answered (Ok filled) after ≡ write_result s.count s.hard.now s.soft.now text
  wrote filled after e l a =
      let fits : text_length s.hard.now s.soft.now ≤ length text = rw (← e) l in
      rw (e, a, sets_front text (setup_text s.count s.hard.now s.soft.now) (rw (measured s.count s.hard.now s.soft.now) at fits))
      (sym (finishes s.count s.hard.now s.soft.now text (rw (← passed s (check (ltb (length text) (text_length s.hard.now s.soft.now)) Room 0), le-ltb (length text) (text_length s.hard.now s.soft.now) fits))))

-- each of Write's answers
pub ruleset answers = (unfit, measured, no_room, wrote)
