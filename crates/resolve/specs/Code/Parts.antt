-- What the functions inside promise.
use Rattle.std.specs.Prelude.{◌≡◌, List, ℕ, Result, MatchResult}
use Rattle.setups.specs.declared.Refusal.{Refusal}
use Rattle.setups.specs.Limits.{sets_most}
use Rattle.setups.specs.Refusals.{number_of}
use Rattle.setups.specs.GivenOut.{ListResult}
use Rattle.setups.specs.Turn.{TurnGives}
use Rattle.lines.specs.Lines.{refusal_lines}
use Rattle.resolve.specs.Resolve.{places, turned_lines, PutsOut}

-- `lines` answer the ways out of a setup of n settings: Turn, with this scratch, gives `turned`
pub record AnswersTurn (n : ℕ) (ways scratch lines : List ℕ) : Type 0 where
  pub turned : ListResult
  pub turns : TurnGives n ways (places sets_most) scratch turned
  pub says : lines ≡ turned_lines ways turned

-- lines that are so are put out; or the refusal's lines are so, and the output stays as it was
abbrev pub PutsOrRefuses : (List ℕ → Type 0) → Result ℕ Refusal → List ℕ → List ℕ → Type 0
PutsOrRefuses Are result output after =
    MatchResult result (λ filled. PutsOut Are output filled after) (λ refusal. Are (refusal_lines (number_of refusal)) × (after ≡ output))
