-- `checks::softs_place`: the bytes from `place` on, with `left` settings to pass, give the place.
use Rattle.setups.specs.Limits.{settings_most}
use Rattle.setups.specs.Code.Checks.{setting_place}
use Rattle.setups.proofs.CheckLaws.{WalkedTo}
use Rattle.setups.proofs.checks.softs_place.Given as goal

abbrev pub invariant-loop-place : goal.invariant-loop-place
invariant-loop-place l = WalkedTo (setting_place l.left) l.soft (setting_place settings_most l.soft) l.place l.place
