-- `put_lines` meets its contract: the lines of the sets from `i` on are still to be stored.
use mathlib.Core.Path.{◌≡◌}
use Prim.Native.Nat.{◌+◌, ◌*◌}
use lib.ListN.{drop}
use lib.Seq.{sets}
use Rattle.lines.specs.Lines.{set_lines, set_line_length}
use Rattle.lines.proofs.put_lines.Given as goal

abbrev pub invariant-loop-i : goal.invariant-loop-i
invariant-loop-i l =
    sets l.output (l.at + set_line_length * l.i) (set_lines l.kind (drop l.i l.list)) ≡ sets l.initial.output l.at (set_lines l.kind l.list)
