-- The law of floors.
use Rattle.straight_proofs.proofs.Floored.{floor_is_shown}
use Rattle.straight_proofs.proofs.laws.floors_are_what_proofs_show.Goals as goal

pub returns : goal.returns
returns c = floor_is_shown
