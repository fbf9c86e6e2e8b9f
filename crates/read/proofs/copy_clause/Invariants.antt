-- `read::copy_clause` meets its contract: the bytes of the pairs that are left are still to be stored.
use mathlib.Core.Path.{◌≡◌}
use Prim.Native.Nat.{◌+◌, ◌*◌, ◌-◌, ◌/◌}
use lib.ListN.{length}
use lib.Seq.{sets}
use Rattle.std.specs.Iterator.Adapters.{enumerate_source, enumerate_count}
use Rattle.std.specs.Slice.Iter.{chunks_exact_rest, chunks_exact_size}
use Rattle.frames.specs.Code.Found.{bytes_from}
use Rattle.read.specs.Texts.{ending}
use Rattle.read.proofs.copy_clause.Given as goal

abbrev pub invariant-loop-i : goal.invariant-loop-i
invariant-loop-i l =
    let left = chunks_exact_rest (enumerate_source l.i-iterator) in
    let i = enumerate_count l.i-iterator in
    (goal.iterator-loop-i).can_next l.i-iterator × (goal.iterator-loop-i).is_finite l.i-iterator × (chunks_exact_size (enumerate_source l.i-iterator) ≡ 2) × (length left + 2 * i ≡ length l.digits)
    × (sets l.buffer (l.place + i) (ending (bytes_from (length l.digits / 2 - i) left)) ≡ sets l.initial.buffer l.place (ending (bytes_from (length l.digits / 2) l.digits)))
