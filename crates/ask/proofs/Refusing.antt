-- The refusals of an ask: none has the number of None; and what is known where none is given.
use mathlib.Core.Path.{◌≡◌}
use mathlib.Core.Logic.{◌≢◌}
use mathlib.Core.Bool.{false, not, ◌||◌}
use mathlib.Core.List.{List}
use Prim.Native.Nat.{ℕ, ◌≤◌, zero-le}
use native.Mathlib.Omega.{arith}
use borrow.Author.Tests.{ltb-false}
use lib.Dec.{ltb}
use lib.ListN.{length}
use Rattle.numbers.proofs.Deciding.{neither}
use Rattle.setups.specs.declared.Refusal.TheVariants.{Vars, Size, Literal, Tail, Long, Room}
use Rattle.setups.specs.Limits.{variables_most, hard_bytes_most, assumed_most}
use Rattle.setups.specs.Refusals.{no_model, check, no_literal, no_clause_byte, offends, ended, long}
use Rattle.setups.specs.Ask.{ask_refusal}
use Rattle.setups.proofs.Refusals.{check_none, check_most}

-- ---- in their order

-- a refusal's number, or 0, by the arguments of an ask and its room
abbrev Refusing : Type 0
Refusing = ℕ → List ℕ → List ℕ → ℕ → ℕ

-- the refusals that are left after those before
abbrev from_long : Refusing
from_long n bytes assumed room = check (long bytes) Long 0

abbrev from_tail : Refusing
from_tail n bytes assumed room = check (not (ended bytes)) Tail (from_long n bytes assumed room)

abbrev from_literal : Refusing
from_literal n bytes assumed room = check (offends (no_clause_byte n) bytes || offends (no_literal n) assumed) Literal (from_tail n bytes assumed room)

abbrev from_room : Refusing
from_room n bytes assumed room = check (ltb room n) Room (from_literal n bytes assumed room)

abbrev from_size : Refusing
from_size n bytes assumed room = check (ltb hard_bytes_most (length bytes) || ltb assumed_most (length assumed)) Size (from_room n bytes assumed room)

-- none of them has the number of None
pub refusal_not_none : (n : ℕ) (bytes assumed : List ℕ) (room : ℕ) → ask_refusal n bytes assumed room ≢ no_model
refusal_not_none n bytes assumed room e = let b : ⊥ = omega (arith, most) in b
  where
    most : ask_refusal n bytes assumed room ≤ 12
    most =
        check_most 12 (ltb variables_most n) Vars (from_size n bytes assumed room) (omega arith)
        (check_most 12 (ltb hard_bytes_most (length bytes) || ltb assumed_most (length assumed)) Size (from_room n bytes assumed room) (omega arith)
        (check_most 12 (ltb room n) Room (from_literal n bytes assumed room) (omega arith)
        (check_most 12 (offends (no_clause_byte n) bytes || offends (no_literal n) assumed) Literal (from_tail n bytes assumed room) (omega arith)
        (check_most 12 (not (ended bytes)) Tail (from_long n bytes assumed room) (omega arith)
        (check_most 12 (long bytes) Long 0 (omega arith) zero-le)))))

-- ---- none is given

-- what the search may rely on
pub record Taken (n : ℕ) (bytes assumed : List ℕ) (room : ℕ) : Type 0 where
  pub variables : n ≤ variables_most
  pub clauses : length bytes ≤ hard_bytes_most
  pub literals : length assumed ≤ assumed_most
  pub fits : n ≤ room
  pub clauses_fine : offends (no_clause_byte n) bytes ≡ false
  pub literals_fine : offends (no_literal n) assumed ≡ false

pub taken : (n : ℕ) (bytes assumed : List ℕ) (room : ℕ) → ask_refusal n bytes assumed room ≡ 0 → Taken n bytes assumed room
taken n bytes assumed room e =
    let vars = check_none (ltb variables_most n) Vars (from_size n bytes assumed room) e in
    let size = check_none (ltb hard_bytes_most (length bytes) || ltb assumed_most (length assumed)) Size (from_room n bytes assumed room) vars.1 in
    let sizes = neither (ltb hard_bytes_most (length bytes)) (ltb assumed_most (length assumed)) size.0 in
    let space = check_none (ltb room n) Room (from_literal n bytes assumed room) size.1 in
    let literal = check_none (offends (no_clause_byte n) bytes || offends (no_literal n) assumed) Literal (from_tail n bytes assumed room) space.1 in
    let fine = neither (offends (no_clause_byte n) bytes) (offends (no_literal n) assumed) literal.0 in
    record {
      variables = ltb-false variables_most n vars.0;
      clauses = ltb-false hard_bytes_most (length bytes) sizes.0;
      literals = ltb-false assumed_most (length assumed) sizes.1;
      fits = ltb-false room n space.0;
      clauses_fine = fine.0;
      literals_fine = fine.1;
    }
