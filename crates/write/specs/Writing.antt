-- Write's answer in document 01's number and values, and what Write promises for all arguments.
use Rattle.std.specs.Prelude.{◌≡◌, refl, List, [], ◌∷◌, ℕ, Result, Ok, Err}
use Rattle.setups.specs.declared.Refusal.{Refusal}
use Rattle.setups.specs.declared.Refusal.TheVariants.{Room}
use Rattle.setups.specs.Refusals.{number_of, finished}
use Rattle.write.specs.Write.{WriteResult, write_result}

-- the answer with the text buffer afterwards
abbrev pub answered : Result ℕ Refusal → List ℕ → WriteResult
answered (Ok filled) text = record { number = finished; filled = filled; text = text }
answered (Err refusal) text = record { number = number_of refusal; filled = 0; text = text }

-- Room is refusal 12, and fills no place
example_answered : answered (Err Room) (9 ∷ []) ≡ record { number = 12; filled = 0; text = 9 ∷ [] }
example_answered = refl

-- The promise: over n variables, the hard and the soft bytes and the text buffer `text`, the answer leaves `after` in that buffer.
abbrev pub Writes : ℕ → List ℕ → List ℕ → List ℕ → Result ℕ Refusal → List ℕ → Type 0
Writes n hard soft text answer after = answered answer after ≡ write_result n hard soft text
