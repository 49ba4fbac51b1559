use Rattle.bst_step.proofs.FieldSteps.{StandBelow}
use Rattle.bst_step.proofs.fields.stand.Given as goal

-- the names so far stand at their places
abbrev pub invariant-loop-at : goal.invariant-loop-at
invariant-loop-at l = StandBelow l.at l.places l.names
