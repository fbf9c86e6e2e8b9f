-- `scans::scan` meets its contract: a clause's end decides or is passed, and any other byte is a literal of the clause so far.
use Rattle.std.proofs.Common.{sym, ◌∙◌}
use Rattle.scans.proofs.ScanLaws.{scan_literal, scan_passes, scan_stops}
use Rattle.scans.proofs.scan.Goals as goal
use Rattle.scans.proofs.scan.Goals.{then-byte-eq0+else-decides, else-byte-eq0}

pub returns-then-decides : goal.returns-then-decides
returns-then-decides c =
    scan_stops c.loop-byte.invariant c.loop-byte-test.true c.if-byte-eq0.true (sym c.decides.ensures ∙ c.if-decides.true)

pub loop-byte-preserved : goal.loop-byte-preserved
loop-byte-preserved c =
    let inside = c.loop-byte-test.true in
    elim c.if-byte-eq0.branch [
      | then-byte-eq0+else-decides w ↦
          rw (w.seen-is, w.passed-is)
          (scan_passes c.loop-byte.invariant inside w.if-byte-eq0.true (sym w.decides.ensures ∙ w.if-decides.false))
      | else-byte-eq0 w ↦
          rw (w.seen-is ∙ w.see_under-seen.ensures, w.passed-is) (scan_literal c.loop-byte.invariant inside w.if-byte-eq0.false)
    ]
