-- `digits::put_bytes` meets its contract: the digits of the bytes from `i` on are still to be written.
use mathlib.Core.Path.{◌≡◌}
use Prim.Native.Nat.{◌+◌, ◌*◌}
use lib.ListN.{drop}
use lib.Seq.{sets}
use Rattle.digits.specs.Digits.{digits}
use Rattle.digits.proofs.put_bytes.Given as goal

abbrev pub invariant-loop-i : goal.invariant-loop-i
invariant-loop-i l =
    sets l.text (l.at + 2 * l.i) (digits (drop l.i l.bytes)) ≡ sets l.fn.text l.at (digits l.bytes)
