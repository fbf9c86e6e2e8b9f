-- `Sought::all_rounds` meets its contract: whatever advances to the first round advances to the last.
use Rattle.question.specs.Seeking.{AdvancesTo}
use Rattle.question.proofs.Rounds.{left}
use Rattle.question.proofs.sought.Sought.all_rounds.Given as goal

abbrev pub invariant-loop-last : goal.invariant-loop-last
invariant-loop-last l = AdvancesTo l.self l.fn.kept l.fn.values l.last

abbrev pub decreases-loop-last : goal.decreases-loop-last
decreases-loop-last l = left l.last
