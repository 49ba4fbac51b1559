use Rattle.bst_step.proofs.FieldSteps.{FieldsStandBelow}
use Rattle.bst_step.proofs.fields.all_stand.Given as goal

-- the fields of the entries so far stand at their places
abbrev pub invariant-loop-at : goal.invariant-loop-at
invariant-loop-at l = FieldsStandBelow l.at l.places l.list.entries
