-- `scans::scan_units` meets its contract. The loop's invariant: no literal before this place decides.
use Rattle.scans.proofs.ScanLaws.{UnitsFrom}
use Rattle.scans.proofs.scan_units.Given as goal

abbrev pub invariant-loop-passed : goal.invariant-loop-passed
invariant-loop-passed l = UnitsFrom l.values l.assumed l.passed
