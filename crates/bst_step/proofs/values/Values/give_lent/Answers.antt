-- The variable holds the string, whose bytes stand in no pool.
use Rattle.std.proofs.Common.{◌≡◌, ◌∙◌, ◌∷◌, List, ap, arith, map}
use Rattle.bst_meaning.specs.declared.value.Value.{Value}
use Rattle.bst_meaning.specs.declared.value.Value.TheVariants.{Str}
use Rattle.bst_meaning.specs.Machine.{with_variable}
use Rattle.bst_step.specs.declared.variables.Variable.{Variable}
use Rattle.bst_step.specs.Held.{end_of}
use Rattle.bst_step.specs.Marks as marks
use Rattle.bst_step.specs.Values.{Holding, given_globally}
use Rattle.bst_step.specs.Variables.{variable_in}
use Rattle.bst_step.proofs.HeldSteps.{held_given}
use Rattle.bst_step.proofs.MarkSteps.{lent_given}
use Rattle.bst_step.proofs.ValueSteps.{with_variable_held}
use Rattle.bst_step.proofs.values.Values.give_lent.Goals as goal

pub invariant_of-self : goal.invariant_of-self
invariant_of-self c =
    let none : end_of c.held-value.result ≡ 0 = c.held-value.ensures.within in
    held_given c.self.inside.pool.items c.self.inside.kept c.self.inside.kept c.held-value.result c.args.name
    c.self.inside.stack.items c.self.inside.globals c.set.new.self c.self.inside.entries
    (omega (arith, none)) (omega (arith, none)) c.set.ensures c.self.invariant

pub returns-clause-globals : goal.returns-clause-globals
returns-clause-globals c =
    ap (λ (vs : List Variable). map (variable_in c.self.inside.pool.items) vs) c.set.ensures
    ∙ with_variable_held c.self.inside.pool.items (record { name = c.args.name; value = c.held-value.result }) c.self.inside.globals
    ∙ ap (λ (v : Value). with_variable (record { name = c.args.name; value = v }) (map (variable_in c.self.inside.pool.items) c.self.inside.globals))
    (c.held-value.ensures.value c.self.inside.pool.items)
    ∙ ap (λ (h : Holding). given_globally c.args.name (Str c.args.bytes.now ∷ h.stack) h.globals) c.self.view_is

pub returns-clause-marks : goal.returns-clause-marks
returns-clause-marks c =
    lent_given c.args.name c.self.inside.stack.items c.self.inside.globals c.set.new.self c.self.inside.entries c.held-value.result
    c.set.ensures c.held-value.ensures.mark
    ∙ ap (λ (h : Holding). marks.given_globally c.args.name (marks.Lent ∷ h.marks.stack) h.marks) c.self.view_is
