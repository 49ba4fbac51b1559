-- The law of known kinds.
use Rattle.sym_state.proofs.KnownKinds.{known_kind_holds}
use Rattle.sym_state.proofs.laws.known_kinds_hold.Goals as goal

pub returns : goal.returns
returns c = λ style v facts s all. known_kind_holds style v s facts all
