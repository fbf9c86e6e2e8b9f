-- What Mark gives back, for all arguments (document 01, "Ways out and clashes" and "What comes back when it can't").
use Rattle.std.specs.Prelude.{◌≡◌, refl, cond, not, List, [], ◌∷◌, ℕ, ltb, eqb, length}
use Rattle.sets.specs.Tests.{fine}
use Rattle.sets.specs.Marks.{marks, kept, lost}
use Rattle.setups.specs.declared.Refusal.TheVariants.{Size, Softs, List as NotAList, Room}
use Rattle.setups.specs.Limits.{sets_most, settings_most}
use Rattle.setups.specs.Refusals.{finished, check}
use Rattle.setups.specs.Written.{written}

-- the answer's number, how many places Marked has filled (else 0), and the mark buffer afterwards
pub record MarkResult : Type 0 where
  pub number : ℕ
  pub filled : ℕ
  pub marks : List ℕ

-- 7, 2, 12, 9; 0 where none is given
abbrev pub mark_refusal : ℕ → List ℕ → ℕ → ℕ
mark_refusal n list room =
    check (ltb settings_most n) Softs
    (check (ltb sets_most (length list)) Size
    (check (ltb room n) Room
    (check (not (fine n list)) NotAList 0)))

unfoldable pub mark_result : ℕ → List ℕ → List ℕ → MarkResult
mark_result n list places =
    let refusal = mark_refusal n list (length places) in
    let refused : MarkResult = record { number = refusal; filled = 0; marks = places } in
    let marked : MarkResult = record { number = finished; filled = n; marks = written (marks n list) places } in
    cond (eqb refusal 0) marked refused

-- over the list 1 the first of two settings is lost and the second kept; the third place stays
example_mark : mark_result 2 (1 ∷ []) (7 ∷ 8 ∷ 9 ∷ []) ≡ record { number = 0; filled = 2; marks = lost ∷ kept ∷ 9 ∷ [] }
unfolding mark_result
example_mark = refl
