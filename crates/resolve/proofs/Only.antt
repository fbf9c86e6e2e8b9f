-- No second output meets the promise.
use mathlib.Core.Path.{◌≡◌, sym, ap, ◌∙◌, subst}
use mathlib.Core.Bool.{cond}
use mathlib.Core.List.{List}
use Prim.Native.Nat.{ℕ}
use lib.Dec.{eqb}
use lib.ListN.{length}
use lib.Seq.{sets}
use Rattle.setups.specs.Limits.{sets_most}
use Rattle.setups.specs.Setups.{Setup, count}
use Rattle.setups.specs.Refusals.{finished}
use Rattle.setups.specs.GivenOut.{ListResult, listed_sets}
use Rattle.setups.specs.Turn.{TurnGives}
use Rattle.list.proofs.Promise.{list_result_only}
use Rattle.turn.proofs.Promise.{turn_result_only}
use Rattle.lines.specs.Lines.{refusal_lines}
use Rattle.resolve.specs.Resolve.{places, scratch_places, reading, setup_read, listed_lines, Answers, Resolves, PutsOut}

answers_only : (g : Setup) (a b : List ℕ) → Answers g a → Answers g b → a ≡ b
answers_only g a b p q =
    let found : p.found ≡ q.found = list_result_only g.variables g.hard g.soft (places sets_most) (places scratch_places) p.found q.found p.lists q.lists in
    let turns : TurnGives (count g) (listed_sets q.found) (places sets_most) q.found.scratch p.turned =
    subst (λ (r : ListResult). TurnGives (count g) (listed_sets r) (places sets_most) r.scratch p.turned) found p.turns in
    let turned = turn_result_only (count g) (listed_sets q.found) (places sets_most) q.found.scratch p.turned q.turned turns q.turns in
    p.says ∙ ap (λ (r : ListResult). listed_lines r p.turned) found ∙ ap (listed_lines q.found) turned ∙ sym q.says

pub lines_only : (text a b : List ℕ) → Resolves text a → Resolves text b → a ≡ b
lines_only text a b p q =
    p.says
    ∙ ap (λ (answer : List ℕ). cond (eqb (reading text).number finished) answer (refusal_lines (reading text).number))
    (answers_only (setup_read (reading text)) p.answer q.answer p.answers q.answers)
    ∙ sym q.says

-- so that no second count or output does
pub resolve_only : (text output : List ℕ) (filled other : ℕ) (after later : List ℕ) → PutsOut (Resolves text) output filled after
    → PutsOut (Resolves text) output other later → (filled ≡ other) × (after ≡ later)
resolve_only text output filled other after later p q =
    let same = lines_only text p.0 q.0 p.1 q.1 in
    (p.2.count ∙ ap length same ∙ sym q.2.count, p.2.stored ∙ ap (sets output 0) same ∙ sym q.2.stored)
