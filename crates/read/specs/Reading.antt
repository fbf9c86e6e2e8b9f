-- Read's answer in document 01's number and values, and what Read promises for all arguments.
use Rattle.std.specs.Prelude.{◌≡◌, refl, List, [], ◌∷◌, ℕ, Result, Ok, Err}
use Rattle.setups.specs.declared.Refusal.{Refusal}
use Rattle.setups.specs.declared.Refusal.TheVariants.{Frame}
use Rattle.setups.specs.Refusals.{number_of, finished}
use Rattle.read.specs.declared.ReadSetup.{ReadSetup}
use Rattle.read.specs.Read.{ReadResult, read_result}

-- the answer with the two buffers afterwards
abbrev pub answered : Result ReadSetup Refusal → List ℕ → List ℕ → ReadResult
answered (Ok setup) hard soft =
    record { number = finished; count = setup.count; hard_filled = setup.hard_filled; soft_filled = setup.soft_filled; hard = hard; soft = soft }
answered (Err refusal) hard soft = record { number = number_of refusal; count = 0; hard_filled = 0; soft_filled = 0; hard = hard; soft = soft }

-- Frame is refusal 11, and fills no place
example_answered : answered (Err Frame) [] (9 ∷ []) ≡ record { number = 11; count = 0; hard_filled = 0; soft_filled = 0; hard = []; soft = 9 ∷ [] }
example_answered = refl

-- The promise: over a text and the two buffers, the answer leaves `hard_after` and `soft_after` in them.
abbrev pub Reads : List ℕ → List ℕ → List ℕ → Result ReadSetup Refusal → List ℕ → List ℕ → Type 0
Reads text hard soft answer hard_after soft_after = answered answer hard_after soft_after ≡ read_result text hard soft
