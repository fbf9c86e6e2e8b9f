-- `scans::scan_units` meets its contract: a literal that is a clause of its own decides.
use Rattle.std.proofs.Common.{sym, ◌∙◌}
use Rattle.scans.proofs.ScanLaws.{unit_stops}
use Rattle.scans.proofs.scan_units.Goals as goal

pub returns-then-decides : goal.returns-then-decides
returns-then-decides c =
    unit_stops c.loop-passed.invariant _ c.loop-passed-test.true c.see_under-seen.ensures (sym c.decides.ensures ∙ c.if-decides.true)
