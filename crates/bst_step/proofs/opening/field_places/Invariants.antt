use Rattle.std.proofs.Common.{◌≡◌, ◌≤◌, length, take}
use Rattle.bst_meaning.specs.Entries.{field_ids_from}
use Rattle.bst_step.specs.Places.{StandAt}
use Rattle.bst_step.proofs.opening.field_places.Given as goal

-- the fields among the names so far stand at their places
abbrev pub invariant-loop-id : goal.invariant-loop-id
invariant-loop-id l = record {
  count : length l.places.items ≡ l.id;
  few : l.fields ≤ l.id;
  fields : l.fields ≡ length (field_ids_from 0 (take l.id l.names));
  stand : StandAt l.places.items (field_ids_from 0 (take l.id l.names));
}
