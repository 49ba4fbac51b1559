-- The name's id is looked up in the table.
use Rattle.std.proofs.Common.{◌∙◌, ap, arith, false, sym, true}
use Rattle.name_table.specs.TypeTarget.{type_function}
use Rattle.bst_step.proofs.PreparedSteps.{found_there}
use Rattle.bst_step.proofs.prepared.PreparedStyle.type_function.Goals as goal

pub returns-then-index : goal.returns-then-index
returns-then-index c =
    found_there c.self.inside.base.now c.args.name.now c.in_ok-id.id true (sym c.in_ok-id.ensures.found)
    (sym (c.self.invariant.0 c.in_ok-id.id.0 c.index.result.now (omega (arith, c.self.invariant.1, c.in_ok-id.ensures.within))) ∙ sym c.index.ensures ∙ c.if-index.true)
    ∙ ap (λ s. type_function c.args.name.now s) c.self.view_is

pub returns-else-index : goal.returns-else-index
returns-else-index c =
    found_there c.self.inside.base.now c.args.name.now c.in_ok-id.id false (sym c.in_ok-id.ensures.found)
    (sym (c.self.invariant.0 c.in_ok-id.id.0 c.index.result.now (omega (arith, c.self.invariant.1, c.in_ok-id.ensures.within))) ∙ sym c.index.ensures ∙ c.if-index.false)
    ∙ ap (λ s. type_function c.args.name.now s) c.self.view_is
