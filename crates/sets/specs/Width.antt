-- The width of a set: how many settings there are at the most (document 01, "Setups"). No other definition over sets names one.
use Rattle.std.specs.Prelude.{ℕ}

abbrev pub settings_most : ℕ
settings_most = 32
