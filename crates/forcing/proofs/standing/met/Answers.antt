-- `standing::met` meets its contract: while each clause so far has a true literal, the clauses from here on decide.
use mathlib.Core.Path.{refl}
use Rattle.forcing.proofs.StandingLaws.{meeting_starts}
use Rattle.forcing.proofs.standing.met.Goals as goal

pub loop-byte-init : goal.loop-byte-init
loop-byte-init c = meeting_starts refl
