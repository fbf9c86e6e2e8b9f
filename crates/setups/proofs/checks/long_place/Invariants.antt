-- `checks::long_place`: the bytes from `place` on, after `run` literals, give the place.
use Rattle.setups.specs.Code.Checks.{long_place}
use Rattle.setups.proofs.CheckLaws.{WalkedTo}
use Rattle.setups.proofs.checks.long_place.Given as goal

abbrev pub invariant-loop-place : goal.invariant-loop-place
invariant-loop-place l = WalkedTo (long_place l.run) l.bytes (long_place 0 l.bytes) l.place l.place
