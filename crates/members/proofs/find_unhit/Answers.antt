-- `members::find_unhit` meets its contract: the members before this one are hit, or one of them wants the fewest settings so far.
use mathlib.Core.Path.{refl}
use native.Mathlib.Omega.{arith}
use lib.Bits.{bit_and}
use lib.ListN.{get_or}
use Rattle.numbers.proofs.Deciding.{refuted}
use Rattle.members.proofs.Members.{hit_next, waits_here, waits_next}
use Rattle.members.proofs.find_unhit.Goals as goal
use Rattle.members.proofs.find_unhit.Goals.{then-not-meets+else-wanted-eq-EMPTY, else-not-meets}

pub returns-then-wanted-eq-EMPTY : goal.returns-then-wanted-eq-EMPTY
returns-then-wanted-eq-EMPTY c =
    let a = c.args in
    let i = c.loop-member.member-index in
    let q = refuted c.meets.ensures c.if-not-meets.true in
    (get_or a.members.now i 0, rw c.if-wanted-eq-EMPTY.true at (waits_here a.members.now a.taken a.left i (omega arith) q))

pub loop-member-preserved : goal.loop-member-preserved
loop-member-preserved c =
    let a = c.args in
    let i = c.loop-member.member-index in
    let so = c.loop-member.invariant in
    elim c.if-not-meets.branch [
      | then-not-meets+else-wanted-eq-EMPTY w ↦
          rw w.fewest-is (waits_next a.members.now a.taken a.left c.loop-member.fewest i (bit_and (get_or a.members.now i 0) a.left) w.fewer.result
          (omega arith) (refuted c.meets.ensures w.if-not-meets.true) refl w.if-wanted-eq-EMPTY.false w.fewer.ensures so)
      | else-not-meets w ↦ rw w.fewest-is (hit_next a.members.now a.taken a.left c.loop-member.fewest i (omega arith) (c.meets.ensures.0 w.if-not-meets.false) so)
    ]
