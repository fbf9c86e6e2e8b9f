-- Numbers of variables (document 01, "Setups").
use Rattle.std.specs.Prelude.{ℕ}

-- how many variables there are at the most
abbrev pub variables_most : ℕ
variables_most = 64

-- what a negated literal's byte has beyond its variable's number: "v for variable v, and 128 + v for its negation"
abbrev pub negated : ℕ
negated = 128
