-- `forcing::give_up` meets its contract: the literals of given-up settings that are passed are false.
use Rattle.forcing.specs.Rules.{unmoved}
use Rattle.forcing.proofs.ForcingLaws.{Giving}
use Rattle.forcing.proofs.forcing.give_up.Given as goal

abbrev pub invariant-loop-byte : goal.invariant-loop-byte
invariant-loop-byte l = Giving l.given l.soft (unmoved l.fn.values) l.forced l.selector.0 l.byte-index
