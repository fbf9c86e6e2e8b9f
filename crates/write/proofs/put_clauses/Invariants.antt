-- `write::put_clauses` meets its contract: the lines of the clauses that are left are still to be stored from `to` on.
use mathlib.Core.Path.{◌≡◌}
use mathlib.Core.Bool.{true}
use Prim.Native.Nat.{◌+◌}
use lib.ListN.{length}
use lib.Seq.{sets}
use Rattle.std.specs.Slice.Iter.{split_inclusive_rest}
use Rattle.setups.specs.Clauses.{clauses}
use Rattle.setups.specs.Refusals.{ended}
use Rattle.frames.specs.Code.Kinds.{byte_of_kind}
use Rattle.write.specs.SetupText.{clause_lines}
use Rattle.write.proofs.put_clauses.Given as goal

abbrev pub invariant-loop-clause : goal.invariant-loop-clause
invariant-loop-clause l =
    let left = clause_lines (byte_of_kind l.kind) (clauses (split_inclusive_rest l.clause-iterator)) in
    let all = clause_lines (byte_of_kind l.kind) (clauses l.bytes) in
    (goal.iterator-loop-clause).can_next l.clause-iterator × (goal.iterator-loop-clause).is_finite l.clause-iterator × (ended (split_inclusive_rest l.clause-iterator) ≡ true) × (l.to + length left ≡ l.at + length all) × (sets l.text l.to left ≡ sets l.initial.text l.at all)
