-- `members::find_unhit` meets its contract: the members before this one are hit, or one of them wants the fewest settings so far.
use Rattle.members.proofs.Members.{UnhitSoFar}
use Rattle.members.proofs.find_unhit.Given as goal

abbrev pub invariant-loop-member : goal.invariant-loop-member
invariant-loop-member l = UnhitSoFar l.members l.taken l.left l.fewest l.member-index
