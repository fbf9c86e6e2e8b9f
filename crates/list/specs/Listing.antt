-- List's answer in document 01's number and values, and what List promises for all arguments.
use Rattle.std.specs.Prelude.{◌≡◌, refl, List, [], ℕ, Result, Ok, Err}
use Rattle.setups.specs.Refusals.{number_of, finished, unmet}
use Rattle.setups.specs.List.{ListGives}
use Rattle.setups.specs.GivenOut.{ListResult, without_list}
use Rattle.setups.specs.declared.Refusal.{Refusal}
use Rattle.setups.specs.declared.Refusal.TheVariants.{TooMany}
use Rattle.list.specs.declared.Listing.{Listing}
use Rattle.list.specs.declared.Listing.TheVariants.{Listed, Unmet}

-- the answer with the list buffer and the scratch afterwards
abbrev pub answered : Result Listing Refusal → List ℕ → List ℕ → ListResult
answered (Ok (Listed filled)) list scratch = record { number = finished; filled = filled; list = list; scratch = scratch }
answered (Ok Unmet) list scratch = without_list unmet list scratch
answered (Err refusal) list scratch = without_list (number_of refusal) list scratch

-- TooMany is 8, Unmet is 128 (80 in hexadecimal), Listed is 0 and tells how many places it has filled
example_answered : ((answered (Err TooMany) [] []).number ≡ 8) × ((answered (Ok Unmet) [] []).number ≡ 128) × ((answered (Ok (Listed 3)) [] []).filled ≡ 3)
example_answered = (refl, refl, refl)

-- The promise: over n variables, the hard and the soft bytes and the two buffers, the answer leaves `list_after` and `scratch_after` in
-- them.
abbrev pub Lists : ℕ → List ℕ → List ℕ → List ℕ → List ℕ → Result Listing Refusal → List ℕ → List ℕ → Type 0
Lists n hard soft list scratch answer list_after scratch_after = ListGives n hard soft list scratch (answered answer list_after scratch_after)
