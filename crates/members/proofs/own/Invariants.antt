-- `members::own` meets its contract: the settings found so far, and those that the members from here on give, are the whole.
use Rattle.members.proofs.Members.{OwnSoFar}
use Rattle.members.proofs.own.Given as goal

abbrev pub invariant-loop-member : goal.invariant-loop-member
invariant-loop-member l = OwnSoFar l.members l.taken l.found l.member-index
