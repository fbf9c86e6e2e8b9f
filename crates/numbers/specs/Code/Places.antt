-- Where the code keeps the value of a variable.
use Rattle.std.specs.Prelude.{◌≡◌, refl, ℕ, ◌+◌, ◌-◌, ◌%◌}
use Rattle.numbers.specs.Numbers.{variables_most}

-- the value of variable v stands at v − 1; whatever the number, it is a place
abbrev pub value_place : ℕ → ℕ
value_place v = (v + (variables_most - 1)) % variables_most

-- the first variable's value stands at 0, the last one's at 63
example_place : (value_place 1 ≡ 0) × (value_place 64 ≡ 63)
example_place = (refl, refl)
