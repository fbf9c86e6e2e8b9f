-- What is judged of a setup's clauses: a test over two buffers, and what is known where no refusal is given.
use mathlib.Core.Path.{◌≡◌}
use mathlib.Core.Bool.{true, false, not, ◌||◌}
use mathlib.Core.List.{List}
use Prim.Native.Nat.{ℕ, ◌≤◌, ◌<◌, zero-le}
use native.Mathlib.Omega.{arith}
use borrow.Author.Tests.{ltb-false, leb-false, not-false}
use lib.Dec.{ltb, leb}
use lib.ListN.{length}
use Rattle.numbers.proofs.Deciding.{neither}
use Rattle.setups.specs.declared.Refusal.TheVariants.{Vars, Size, Work, Literal, Tail, Long, Softs}
use Rattle.setups.specs.Limits.{variables_most, hard_bytes_most, soft_bytes_most, sets_most, settings_most}
use Rattle.setups.specs.Setups.{settings}
use Rattle.setups.specs.Refusals.{no_clause_byte, offends, ended, long, clauses_refusal}
use Rattle.setups.specs.List.{list_refusal}
use Rattle.setups.proofs.Refusals.{check_none, check_most}

-- both buffers are ended where Tail is not given
pub both_ended : (hard soft : List ℕ) → (not (ended hard) || not (ended soft)) ≡ false → (ended hard ≡ true) × (ended soft ≡ true)
both_ended hard soft e =
    let each = neither (not (ended hard)) (not (ended soft)) e in
    (not-false (ended hard) each.0, not-false (ended soft) each.1)

-- ---- no refusal is given

-- what is known of a setup's clauses where none of 4 to 7 is
pub record FineClauses (n : ℕ) (hard soft : List ℕ) : Type 0 where
  pub hard_literals : offends (no_clause_byte n) hard ≡ false
  pub soft_literals : offends (no_clause_byte n) soft ≡ false
  pub hard_ended : ended hard ≡ true
  pub soft_ended : ended soft ≡ true
  pub hard_long : long hard ≡ false
  pub soft_long : long soft ≡ false
  pub settings_few : length (settings soft) ≤ settings_most

pub fine_clauses : (n : ℕ) (hard soft : List ℕ) (rest : ℕ) → clauses_refusal n hard soft rest ≡ 0 → FineClauses n hard soft
fine_clauses n hard soft rest e =
    let literal = check_none (offends (no_clause_byte n) hard || offends (no_clause_byte n) soft) Literal _ e in
    let tail = check_none (not (ended hard) || not (ended soft)) Tail _ literal.1 in
    let longer = check_none (long hard || long soft) Long _ tail.1 in
    let softs = check_none (ltb settings_most (length (settings soft))) Softs rest longer.1 in
    let literals = neither (offends (no_clause_byte n) hard) (offends (no_clause_byte n) soft) literal.0 in
    let tails = both_ended hard soft tail.0 in
    let longs = neither (long hard) (long soft) longer.0 in
    record {
      hard_literals = literals.0;
      soft_literals = literals.1;
      hard_ended = tails.0;
      soft_ended = tails.1;
      hard_long = longs.0;
      soft_long = longs.1;
      settings_few = ltb-false settings_most (length (settings soft)) softs.0;
    }

-- where none of List's 1 to 7 is, the scratch has one place more than the list
pub list_taken : (n : ℕ) (hard soft : List ℕ) (room scratch_room : ℕ) → list_refusal n hard soft room scratch_room ≡ 0
    → (room < scratch_room) × FineClauses n hard soft
list_taken n hard soft room scratch_room e =
    let large = ltb hard_bytes_most (length hard) || (ltb soft_bytes_most (length soft) || ltb sets_most room) in
    let vars = check_none (ltb variables_most n) Vars _ e in
    let size = check_none large Size _ vars.1 in
    let work = check_none (leb scratch_room room) Work (clauses_refusal n hard soft 0) size.1 in
    (leb-false scratch_room room work.0, fine_clauses n hard soft 0 work.1)

-- ---- List's refusals before the search are those up to 7

pub list_most : (n : ℕ) (hard soft : List ℕ) (room scratch_room : ℕ) → list_refusal n hard soft room scratch_room ≤ 7
list_most n hard soft room scratch_room =
    check_most 7 (ltb variables_most n) Vars _ (omega arith)
    (check_most 7 (ltb hard_bytes_most (length hard) || (ltb soft_bytes_most (length soft) || ltb sets_most room)) Size _ (omega arith)
    (check_most 7 (leb scratch_room room) Work _ (omega arith)
    (check_most 7 (offends (no_clause_byte n) hard || offends (no_clause_byte n) soft) Literal _ (omega arith)
    (check_most 7 (not (ended hard) || not (ended soft)) Tail _ (omega arith)
    (check_most 7 (long hard || long soft) Long _ (omega arith)
    (check_most 7 (ltb settings_most (length (settings soft))) Softs 0 (omega arith) zero-le))))))
