-- `read::fill`: the lines from the reader's place on decide what the text says, and the buffers have what has come.
use Rattle.read.proofs.Filling.{Filled}
use Rattle.read.proofs.fill.Given as goal

abbrev pub invariant-loop-found : goal.invariant-loop-found
invariant-loop-found l = Filled l.text l.initial.hard l.initial.soft l.found-iterator l.hard l.soft l.hard_place l.soft_place
