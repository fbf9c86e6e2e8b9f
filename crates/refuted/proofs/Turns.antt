-- The wrong programs for Turn are refuted: each comes to a row of the table, whose ways out and clashes turn into each other.
use mathlib.Core.Path.{◌≡◌, refl, sym, ap, ◌∙◌}
use mathlib.Core.List.{List, [], ◌∷◌}
use Prim.Native.Nat.{ℕ}
use native.Mathlib.Omega.{arith}
use lib.ListN.{length}
use Rattle.sets.specs.Turns.{Turned}
use Rattle.setups.specs.Setups.{Setup, count}
use Rattle.setups.specs.GivenOut.{given_out}
use Rattle.setups.specs.Turn.{turn_refusal}
use Rattle.setups.proofs.Duality.{clashes_turned, ways_out_turned}
use Rattle.table.specs.Rows.{Row}
use Rattle.table.proofs.Table.{table}
use Rattle.turn.proofs.Promise.{turn_result_only, turns_exist}
use Rattle.refuted.specs.Programs.{Program, RefusesAll, WritesNothing}
use Rattle.refuted.specs.Turns.{Given, given_over, KeepsTurn, Copies, CopiesBack, MakesUpTurnCount, SkipsSecond, TurnsFewest}
use Rattle.refuted.proofs.Programs.{room, work, first_alike, Gives, at, not_refusing, not_silent}

-- some program keeps the promise
pub turn_kept : (P : Program Given) × KeepsTurn P
turn_kept = (
  (λ given list scratch. (turns_exist given.settings given.sets list scratch).0),
  λ given list scratch. (turns_exist given.settings given.sets list scratch).1,
)

-- ---- on a row of the table

-- there the program has this one result
module _ {P : Program Given} (keeps : KeepsTurn P) where
  on : (n : ℕ) (given turned : List ℕ) → Turned n given turned → turn_refusal n given 3 4 ≡ 0 → Gives P (given_over n given) room work (given_out turned room work)
  on n given turned exact e = record {
    so =
        turn_result_only n given room work (P (given_over n given) room work) (given_out turned room work) (keeps (given_over n given) room work)
        (record { turned = turned; exact = exact; says = rw e });
  }

  module _ {g : Setup} {ways clashes : List ℕ} (row : Row g ways clashes) where
    on_ways : turn_refusal (count g) ways 3 4 ≡ 0 → Gives P (given_over (count g) ways) room work (given_out clashes room work)
    on_ways = on (count g) ways clashes (clashes_turned g ways clashes row.ways_out row.clash)

    on_clashes : turn_refusal (count g) clashes 3 4 ≡ 0 → Gives P (given_over (count g) clashes) room work (given_out ways room work)
    on_clashes = on (count g) clashes ways (ways_out_turned g ways clashes row.ways_out row.clash)

-- ---- the refutations

pub turn_not_refusing : (P : Program Given) → RefusesAll Given P → ¬ KeepsTurn P
turn_not_refusing P wrong keeps = not_refusing (on_ways keeps table.p4 refl) refl wrong

pub turn_not_silent : (P : Program Given) → WritesNothing Given P → ¬ KeepsTurn P
turn_not_silent P wrong keeps = not_silent (on_ways keeps table.p4 refl) (λ e. omega (arith, first_alike e)) wrong

-- P4's ways out 5, 6, 10 turn into 3, 6, 12
pub turn_not_copied : (P : Program Given) → Copies P → ¬ KeepsTurn P
turn_not_copied P wrong keeps = omega (arith, first_alike (at (on_ways keeps table.p4 refl) wrong refl))

-- and these turn back
pub turn_not_copied_back : (P : Program Given) → CopiesBack P → ¬ KeepsTurn P
turn_not_copied_back P wrong keeps = omega (arith, first_alike (at (on_clashes keeps table.p4 refl) wrong refl _ refl table.p4.clash))

-- over two settings P5's way out 3 turns into 1, 2 and P7's way out 1 into 1
pub turn_not_made_up : (made : ℕ → ℕ → List ℕ → List ℕ → ℕ) (P : Program Given) → MakesUpTurnCount made P → ¬ KeepsTurn P
turn_not_made_up made P wrong keeps = omega (arith, at (on_ways keeps table.p5 refl) wrong refl, at (on_ways keeps table.p7 refl) wrong refl)

-- over two settings P6's clash 3 turns into 1, 2 and P7's clash 1 into 1
pub turn_not_skipped : (made : ℕ → ℕ → List ℕ → List ℕ → List ℕ) (P : Program Given) → SkipsSecond made P → ¬ KeepsTurn P
turn_not_skipped made P wrong keeps =
    let two = at (on_clashes keeps table.p6 refl) wrong refl _ refl table.p6.clash in
    let one = at (on_clashes keeps table.p7 refl) wrong refl _ refl table.p7.clash in
    omega (arith, ap length (two ∙ sym one))

-- P14's clashes 3, 5 turn into 1, 6
pub turn_not_fewest : (P : Program Given) → TurnsFewest P → ¬ KeepsTurn P
turn_not_fewest P wrong keeps =
    omega (arith, ap length (at (on_clashes keeps table.p14 refl) wrong refl (1 ∷ 6 ∷ []) (ways_out_turned _ _ _ table.p14.ways_out table.p14.clash)))
