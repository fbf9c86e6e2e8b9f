-- The setup that the code's value holds: what the contracts of the searches over it speak of.
use Rattle.setups.specs.Setups.{Setup, setup}
use Rattle.setups.specs.declared.taken.TakenSetup.{TakenSetup}

abbrev pub setup_of : TakenSetup → Setup
setup_of taken = setup taken.variables taken.hard.now taken.soft.now
