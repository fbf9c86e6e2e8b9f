-- The checks' answer before the search, as a refusal's number.
use Rattle.std.specs.Prelude.{◌≡◌, refl, ℕ, Result, Ok, Err}
use Rattle.setups.specs.declared.Refusal.{Refusal}
use Rattle.setups.specs.declared.Refusal.TheVariants.{Room}
use Rattle.setups.specs.Refusals.{number_of}

-- the refusal's number; 0 where none is given
abbrev pub refusal_of : Result (Unit {0}) Refusal → ℕ
refusal_of (Ok passed) = 0
refusal_of (Err refusal) = number_of refusal

-- Room is 12
example_refusal : refusal_of (Err Room) ≡ 12
example_refusal = refl
