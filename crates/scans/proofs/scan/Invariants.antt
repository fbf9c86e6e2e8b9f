-- `scans::scan` meets its contract. The loop's invariant: what has been scanned and the bytes from this place on give the scan.
use Rattle.scans.proofs.ScanLaws.{ScansFrom}
use Rattle.scans.proofs.scan.Given as goal

abbrev pub invariant-loop-byte : goal.invariant-loop-byte
invariant-loop-byte l = ScansFrom l.values l.bytes l.seen l.passed l.byte-index
