-- Ask's answer in document 01's number and values, and what Ask promises for all arguments.
use Rattle.std.specs.Prelude.{◌≡◌, refl, List, [], ◌∷◌, ℕ, Result, Ok, Err}
use Rattle.setups.specs.declared.Refusal.{Refusal}
use Rattle.setups.specs.Refusals.{number_of, finished, no_model}
use Rattle.setups.specs.Ask.{AskResult, ask_result}
use Rattle.ask.specs.declared.Asked.{Asked}
use Rattle.ask.specs.declared.Asked.TheVariants.{Model, None}

-- the answer with the model buffer afterwards
abbrev pub answered : Result Asked Refusal → List ℕ → AskResult
answered (Ok (Model visits)) places = record { number = finished; visits = visits; model = places }
answered (Ok (None visits)) places = record { number = no_model; visits = visits; model = places }
answered (Err refusal) places = record { number = number_of refusal; visits = 0; model = places }

-- None is number 129, and tells its visits
example_answered : answered (Ok (None 3)) (9 ∷ []) ≡ record { number = 129; visits = 3; model = 9 ∷ [] }
example_answered = refl

-- The promise: over n variables, the clause bytes, the assumed literals, a budget and the model buffer `places`, the answer leaves
-- `after` in that buffer.
abbrev pub Asks : ℕ → List ℕ → List ℕ → ℕ → List ℕ → Result Asked Refusal → List ℕ → Type 0
Asks n bytes assumed budget places answer after = answered answer after ≡ ask_result n bytes assumed budget places
