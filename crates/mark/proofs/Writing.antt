-- The marks written one by one.
use mathlib.Core.Path.{◌≡◌, ap}
use mathlib.Core.List.{List, [], ◌∷◌, ◌++◌, append-nil}
use Prim.Native.Nat.{ℕ, zero, suc, ◌+◌, ◌≤◌, ◌<◌}
use native.Mathlib.Nat.{le_of_eq}
use native.Mathlib.Numerals.{add-one}
use native.Mathlib.Omega.{arith}
use lib.ListN.{length, set, take, drop, drop_of_length-le}
use lib.Seq.{length-take-le}
use Rattle.sets.specs.Marks.{mark, marks_from, marks}
use Rattle.sets.proofs.Marks.{marks_length}
use Rattle.setups.specs.Written.{written}
use Rattle.numbers.proofs.Places.{fill_next}

-- one mark more stands behind the others
marks_more : (list : List ℕ) (n : ℕ) → marks (n + 1) list ≡ marks n list ++ (mark list n ∷ [])
marks_more list n = rw (add-one n) (from 0 n n (omega arith))
  where
    from : (i n place : ℕ) → place ≡ i + n → marks_from i (suc n) list ≡ marks_from i n list ++ (mark list place ∷ [])
    from i zero place e = let same : place ≡ i = omega arith in rw same
    from i (suc n) place e = ap (λ (rest : List ℕ). mark list i ∷ rest) (from (suc i) n place (omega arith))

-- and is written at the next place
pub marks_next : (list places : List ℕ) (i : ℕ) → i < length places
    → set (written (marks i list) places) i (mark list i) ≡ written (marks (i + 1) list) places
marks_next list places i l = rw (marks_length i list, marks_length (i + 1) list, marks_more list i) (fill_next (marks i list) places i (mark list i) (marks_length i list) l)

-- when the first `count` places are written, the places beyond stand behind them
pub marks_whole : (list places : List ℕ) (i count : ℕ) → i ≡ count → count ≤ length places
    → written (marks i list) (take count places) ++ drop count places ≡ written (marks count list) places
marks_whole list places i count e l =
    rw (e, marks_length count list, drop_of_length-le (take count places) {i = count} (le_of_eq (length-take-le count places l)), append-nil)
