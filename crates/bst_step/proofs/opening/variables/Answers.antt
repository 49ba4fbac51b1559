-- A name is looked at.
use Rattle.std.proofs.Common.{◌∙◌, List, [], ap, sym, subst, length, map}
use Rattle.std.proofs.lemmas.List.{length-map}
use Rattle.name_table.specs.declared.names.NameId.{NameId}
use Rattle.bst_step.specs.Opening.{opening_of}
use Rattle.bst_step.specs.Places.{StandAt}
use Rattle.bst_step.specs.Variables.{variable_in}
use Rattle.bst_step.proofs.OpeningSteps.{opened_more}
use Rattle.bst_step.proofs.ValueSteps.{names_held}
use Rattle.bst_step.proofs.PlacesMade.{one_more, variable_stands}
use Rattle.bst_step.proofs.opening.variables.Goals as goal

pub loop-id-preserved : goal.loop-id-preserved
loop-id-preserved c = record {
  within = c.in_ok-push_declared.ensures.within c.loop-id.invariant.within;
  lent = c.in_ok-push_declared.ensures.marks c.loop-id.invariant.lent;
  count = one_more c.loop-id.places.items c.push.new.self.items _ c.loop-id.id c.in_ok-push.ensures.items c.loop-id.invariant.count;
  stand =
      subst (λ (names : List NameId). StandAt c.push.new.self.items names) (names_held [] c.push_declared.new.variables.items)
      (variable_stands c.args.owner c.loop-id.places.items c.push.new.self.items _ c.loop-id.id c.kind.result (map (variable_in []) c.loop-id.variables.items)
      (map (variable_in []) c.push_declared.new.variables.items) c.in_ok-push.ensures.items
      (ap length c.as_slice.ensures.value ∙ sym (length-map c.loop-id.variables.items (variable_in []))) c.loop-id.invariant.count
      (subst (λ (names : List NameId). StandAt c.loop-id.places.items names) (sym (names_held [] c.loop-id.variables.items)) c.loop-id.invariant.stand)
      c.in_ok-push_declared.ensures.opened);
  opened =
      opened_more (opening_of c.args.owner) c.loop-id.id c.args.names.now c.kind.result (map (variable_in []) c.loop-id.variables.items) _ _ c.kind.ensures
      c.in_ok-push_declared.ensures.opened c.loop-id.invariant.opened;
}
