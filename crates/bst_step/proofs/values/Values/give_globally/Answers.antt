-- The top is taken off, its bytes are brought down, and the variable holds it.
use Rattle.std.proofs.Common.{sym, ◌∙◌, List, ap, arith, map, max}
use Rattle.bst_step.specs.declared.variables.Variable.{Variable}
use Rattle.bst_step.specs.Values.{Holding, given_globally}
use Rattle.bst_step.specs.Variables.{variable_in}
use Rattle.bst_step.proofs.HeldSteps.{held_given, same_entries, same_variables}
use Rattle.bst_step.proofs.MovedSteps.{held_moved}
use Rattle.bst_step.proofs.ViewSteps.{given_view}
use Rattle.bst_step.proofs.MarkSteps.{given_marks, none_given}
use Rattle.bst_step.specs.Marks as marks
use Rattle.bst_step.proofs.values.Values.give_globally.Goals as goal

pub invariant_of-self : goal.invariant_of-self
invariant_of-self c =
    held_given c.brought_down-value.new.pool.items c.self.inside.kept c.max-self-inside.result c.brought_down-value.result c.args.name
    c.drop_top.new.self.items c.self.inside.globals c.set.new.self c.self.inside.entries
    c.brought_down-value.ensures.within
    (c.max-self-inside.ensures ∙ ap (λ n. max c.self.inside.kept n) c.end.ensures) c.set.ensures
    (held_moved c.self.inside.pool.items c.brought_down-value.new.pool.items c.self.inside.kept c.self.inside.stack.items
    c.drop_top.new.self.items c.self.inside.globals c.self.inside.entries c.drop_top.ensures.moved
    (λ some. c.brought_down-value.ensures.left (omega (arith, some, c.len.ensures)))
    c.brought_down-value.ensures.front c.self.invariant)

pub returns-in-Some-clause-globals : goal.returns-in-Some-clause-globals
returns-in-Some-clause-globals c =
    ap (λ (vs : List Variable). map (variable_in c.brought_down-value.new.pool.items) vs) c.set.ensures
    ∙ given_view c.self.inside.pool.items c.brought_down-value.new.pool.items c.self.inside.stack.items c.self.inside.globals c.args.name c.in-Some.top
    c.brought_down-value.result c.in-Some.ensures c.brought_down-value.ensures.value
    (same_variables c.self.inside.kept c.brought_down-value.new.pool.items c.self.inside.pool.items c.brought_down-value.ensures.front
    c.self.inside.globals c.self.invariant.in_globals)
    ∙ ap (λ (h : Holding). given_globally c.args.name h.stack h.globals) c.self.view_is

pub returns-in-Some-clause-entries : goal.returns-in-Some-clause-entries
returns-in-Some-clause-entries c =
    same_entries c.self.inside.kept c.brought_down-value.new.pool.items c.self.inside.pool.items c.brought_down-value.ensures.front
    c.self.inside.entries c.self.invariant.in_entries
    ∙ ap (λ (h : Holding). h.entries) c.self.view_is

pub returns-in-Some-clause-marks : goal.returns-in-Some-clause-marks
returns-in-Some-clause-marks c =
    given_marks c.args.name c.self.inside.stack.items c.drop_top.new.self.items c.self.inside.globals c.set.new.self c.self.inside.entries c.in-Some.top
    c.brought_down-value.result c.in-Some.ensures c.drop_top.ensures.moved c.set.ensures c.brought_down-value.ensures.mark
    ∙ ap (λ (h : Holding). marks.given_globally c.args.name h.marks.stack h.marks) c.self.view_is

pub returns-in_default-clause-marks : goal.returns-in_default-clause-marks
returns-in_default-clause-marks c =
    sym (ap (λ (h : Holding). h.marks) c.self.view_is)
    ∙ none_given c.args.name c.self.inside.stack.items c.self.inside.globals c.self.inside.entries c.in_default.ensures
    ∙ ap (λ (h : Holding). marks.given_globally c.args.name h.marks.stack h.marks) c.self.view_is
