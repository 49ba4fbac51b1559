-- What is found is a loop of the style, and may stand in a certificate.
use Rattle.infer_loops.proofs.LoopsMade.{invariants_made, invariants_stand}
use Rattle.infer_loops.proofs.laws.invariants_are_loops.Goals as goal

pub returns-clause-loops : goal.returns-clause-loops
returns-clause-loops c = invariants_made

pub returns-clause-stand : goal.returns-clause-stand
returns-clause-stand c = invariants_stand
