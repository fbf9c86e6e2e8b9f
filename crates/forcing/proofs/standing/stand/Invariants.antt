-- `standing::stand` meets its contract: at each place both sets have the settings that end before it.
use Rattle.forcing.proofs.Tallies.{Counting}
use Rattle.forcing.proofs.standing.stand.Given as goal

abbrev pub invariant-loop-byte : goal.invariant-loop-byte
invariant-loop-byte l = Counting l.values l.soft l.sure l.possible l.chance l.selector.0 l.byte-index
