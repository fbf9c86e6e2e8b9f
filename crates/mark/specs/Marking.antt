-- Mark's answer in document 01's number and values, and what Mark promises for all arguments.
use Rattle.std.specs.Prelude.{◌≡◌, refl, Result, Ok, Err, List, [], ◌∷◌, ℕ}
use Rattle.setups.specs.declared.Refusal.{Refusal}
use Rattle.setups.specs.declared.Refusal.TheVariants.{Softs}
use Rattle.setups.specs.Refusals.{number_of, finished}
use Rattle.setups.specs.Mark.{MarkResult, mark_result}

-- the answer, how many letters it wrote, with the mark buffer afterwards
abbrev pub answered : Result ℕ Refusal → List ℕ → MarkResult
answered (Ok filled) marks = record { number = finished; filled = filled; marks = marks }
answered (Err refusal) marks = record { number = number_of refusal; filled = 0; marks = marks }

-- Softs is refusal 7, and fills no place
example_answered : answered (Err Softs) (9 ∷ []) ≡ record { number = 7; filled = 0; marks = 9 ∷ [] }
example_answered = refl

-- The promise: over n settings, a list and the mark buffer `places`, the answer leaves `after` in that buffer.
abbrev pub Marks : ℕ → List ℕ → List ℕ → Result ℕ Refusal → List ℕ → Type 0
Marks n list places answer after = answered answer after ≡ mark_result n list places
