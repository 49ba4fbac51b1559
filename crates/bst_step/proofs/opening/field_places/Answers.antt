-- A name is looked at.
use Rattle.std.proofs.Common.{arith}
use Rattle.bst_step.proofs.FieldSteps.{field_place_stands, fields_counted}
use Rattle.bst_step.proofs.PlacesMade.{one_more}
use Rattle.bst_step.proofs.opening.field_places.Goals as goal

pub loop-id-preserved : goal.loop-id-preserved
loop-id-preserved c = record {
  count = one_more c.loop-id.places.items c.push.new.self.items _ c.loop-id.id c.in_ok-push.ensures.items c.loop-id.invariant.count;
  few = omega (arith, c.loop-id.invariant.few, c.count_of_fields-fields.ensures.at_most_one);
  fields =
      fields_counted c.args.names.now c.loop-id.fields c.count_of_fields-fields.result c.loop-id.id c.kind.result c.loop-id.invariant.fields
      (c.count_of_fields-fields.ensures.fields c.loop-id.id) c.kind.ensures;
  stand =
      field_place_stands c.loop-id.places.items c.push.new.self.items c.loop-id.fields c.loop-id.id c.kind.result c.args.names.now
      c.in_ok-push.ensures.items c.loop-id.invariant.fields c.loop-id.invariant.count c.loop-id.invariant.stand c.kind.ensures;
}
