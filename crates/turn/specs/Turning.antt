-- Turn's answer in document 01's number and values, and what Turn promises for all arguments.
use Rattle.std.specs.Prelude.{◌≡◌, refl, Result, Ok, Err, List, [], ◌∷◌, ℕ}
use Rattle.setups.specs.declared.Refusal.{Refusal}
use Rattle.setups.specs.declared.Refusal.TheVariants.{TooMany}
use Rattle.setups.specs.Refusals.{number_of, finished}
use Rattle.setups.specs.GivenOut.{ListResult, without_list}
use Rattle.setups.specs.Turn.{TurnGives}

-- the answer, how many sets it lists, with the list buffer and the scratch afterwards
abbrev pub answered : Result ℕ Refusal → List ℕ → List ℕ → ListResult
answered (Ok filled) list scratch = record { number = finished; filled = filled; list = list; scratch = scratch }
answered (Err refusal) list scratch = without_list (number_of refusal) list scratch

-- TooMany is refusal 8, and fills no place
example_answered : answered (Err TooMany) (9 ∷ []) (0 ∷ 0 ∷ []) ≡ record { number = 8; filled = 0; list = 9 ∷ []; scratch = 0 ∷ 0 ∷ [] }
example_answered = refl

-- The promise: over n settings, the given list and the two buffers, the answer leaves `list_after` and `scratch_after` in them.
abbrev pub Turns : ℕ → List ℕ → List ℕ → List ℕ → Result ℕ Refusal → List ℕ → List ℕ → Type 0
Turns n given list scratch answer list_after scratch_after = TurnGives n given list scratch (answered answer list_after scratch_after)
