-- The limits of document 01, "Setups", by name. A quantity may reach its limit and may be zero. The most variables are as
-- many as there are places for their values, the most settings the width of a set.
use Rattle.std.specs.Prelude.{ℕ}
pub use Rattle.numbers.specs.Numbers.{variables_most}
pub use Rattle.sets.specs.Width.{settings_most}

-- the clause bytes of an ask too
abbrev pub hard_bytes_most : ℕ
hard_bytes_most = 8192

abbrev pub soft_bytes_most : ℕ
soft_bytes_most = 2048

-- in one clause, repeats counted
abbrev pub literals_most : ℕ
literals_most = 127

-- in a list, given or lent as room
abbrev pub sets_most : ℕ
sets_most = 1024

abbrev pub assumed_most : ℕ
assumed_most = 64
