-- What Mark's promise says of each answer, in document 01's words.
use Rattle.std.specs.Prelude.{◌≡◌, ◌≢◌, ◌↔◌, List, ℕ, ◌<◌, get_or, drop}
use Rattle.sets.specs.Sets.{In}
use Rattle.sets.specs.Lists.{Among}
use Rattle.sets.specs.Marks.{kept, lost, open'}
use Rattle.setups.specs.Refusals.{finished}
use Rattle.setups.specs.Mark.{MarkResult}

-- how the setting at place i fares over the list: K where no set has it, L where there are sets and every one has it, O where some set
-- has it and some has it not
pub record Fares (list : List ℕ) (i letter : ℕ) : Type 0 where
  pub keeps : (letter ≡ kept) ↔ ((S : ℕ) → Among S list → ¬ In i S)
  pub loses : (letter ≡ lost) ↔ (((S : ℕ) × Among S list) × ((S : ℕ) → Among S list → In i S))
  pub opens : (letter ≡ open') ↔ (((S : ℕ) × Among S list × In i S) × ((S : ℕ) × Among S list × (¬ In i S)))

-- Marked: a letter for each of n settings; the places beyond stay
pub record HoldsMarks (n : ℕ) (list places : List ℕ) (r : MarkResult) : Type 0 where
  pub filled : r.filled ≡ n
  pub letters : (i : ℕ) → i < n → Fares list i (get_or r.marks i 0)
  pub beyond : drop n r.marks ≡ drop n places

-- of the result r, where `refusal` is the first of 7, 2, 12, 9, or 0
pub record MarkMeans (n : ℕ) (list places : List ℕ) (refusal : ℕ) (r : MarkResult) : Type 0 where
  -- these refusals write nothing
  pub refused : refusal ≢ 0 → r ≡ record { number = refusal; filled = 0; marks = places }
  -- Marked exactly when none is given
  pub marked : (r.number ≡ finished) ↔ (refusal ≡ 0)
  pub holds : r.number ≡ finished → HoldsMarks n list places r
