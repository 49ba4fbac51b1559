-- The variable stands at the end.
use Rattle.std.proofs.Common.{◌∙◌, ◌++◌, ◌∷◌, [], ap, arith, map, subst, sym}
use Rattle.bst_meaning.specs.declared.value.Value.{Value}
use Rattle.bst_step.specs.Variables.{VariablesWithin, variable_in}
use Rattle.bst_step.specs.Marks.{lent_mark}
use Rattle.bst_step.proofs.MarkSteps.{lent_more}
use Rattle.bst_step.proofs.HeldSteps.{one_within}
use Rattle.bst_step.proofs.OpenedSteps.{variable_opened}
use Rattle.bst_step.proofs.opening.push_variable.Goals as goal

pub returns-clause-within : goal.returns-clause-within
returns-clause-within c =
    λ within. subst (VariablesWithin 0) (sym c.in_ok-push.ensures.items) (one_within 0 c.args.variables.now.items _ within (omega arith))

pub returns-clause-opened : goal.returns-clause-opened
returns-clause-opened c =
    λ later. variable_opened c.args.variables.now.items c.push.new.self.items (record { name = c.args.name; value = c.held-value.result }) later c.in_ok-push.ensures.items
    ∙ ap (λ (value : Value). map (variable_in []) c.args.variables.now.items ++ record { name = c.args.name; value = value } ∷ later) (c.held-value.ensures.value [])

pub returns-clause-marks : goal.returns-clause-marks
returns-clause-marks c =
    λ lent. lent_more c.args.variables.now.items c.push.new.self.items (record { name = c.args.name; value = c.held-value.result })
    c.in_ok-push.ensures.items (c.held-value.ensures.mark ∙ ap lent_mark (sym (c.held-value.ensures.value []))) lent
