-- `members::own` meets its contract: the settings found so far, and those that the members from here on give, are the whole.
use native.Mathlib.Omega.{arith}
use Rattle.members.proofs.Members.{own_next}
use Rattle.members.proofs.own.Goals as goal

pub loop-member-preserved : goal.loop-member-preserved
loop-member-preserved c =
    let a = c.args in
    own_next a.members.now a.taken c.loop-member.found c.loop-member.member-index c.alone-found.result (omega arith) c.alone-found.ensures c.loop-member.invariant
