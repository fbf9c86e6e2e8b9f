-- What is known of a setup once List's refusals have passed: what every search over it may rely on.
use Rattle.std.specs.Prelude.{◌≡◌, false, ◌≤◌}
use Rattle.setups.specs.Limits.{variables_most, settings_most}
use Rattle.setups.specs.Setups.{Setup, count}
use Rattle.setups.specs.Refusals.{no_clause_byte, offends}

pub record Taken (g : Setup) : Type 0 where
  pub variables : g.variables ≤ variables_most
  pub hard : offends (no_clause_byte g.variables) g.hard ≡ false
  pub soft : offends (no_clause_byte g.variables) g.soft ≡ false
  pub settings : count g ≤ settings_most
