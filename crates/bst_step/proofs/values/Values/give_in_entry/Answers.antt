-- The top is taken off, its bytes are brought down, and the entry's variable holds it.
use Rattle.std.proofs.Common.{sym, ◌∙◌, List, Some, ap, arith, map, max}
use Rattle.bst_step.specs.EntryStates.{EntryState, state_in}
use Rattle.bst_step.specs.Values.{Holding, given_in_entry}
use Rattle.bst_step.proofs.HeldSteps.{held_given_in, same_entries, same_variables}
use Rattle.bst_step.proofs.MovedSteps.{held_moved}
use Rattle.bst_step.proofs.ViewSteps.{given_in_view}
use Rattle.bst_step.proofs.MarkSteps.{given_in_marks, none_given_in}
use Rattle.bst_step.specs.Marks as marks
use Rattle.bst_step.proofs.values.Values.give_in_entry.Goals as goal

pub invariant_of-self : goal.invariant_of-self
invariant_of-self c =
    held_given_in c.brought_down-value.new.pool.items c.self.inside.kept c.max-self-inside.result c.args.at c.brought_down-value.result c.args.name
    c.drop_top.new.self.items c.self.inside.globals c.self.inside.entries c.set.new.self
    c.brought_down-value.ensures.within
    (c.max-self-inside.ensures ∙ ap (λ n. max c.self.inside.kept n) c.end.ensures) c.set.ensures
    (held_moved c.self.inside.pool.items c.brought_down-value.new.pool.items c.self.inside.kept c.self.inside.stack.items
    c.drop_top.new.self.items c.self.inside.globals c.self.inside.entries c.drop_top.ensures.moved
    (λ some. c.brought_down-value.ensures.left (omega (arith, some, c.len.ensures)))
    c.brought_down-value.ensures.front c.self.invariant)

pub returns-in-Some-clause-globals : goal.returns-in-Some-clause-globals
returns-in-Some-clause-globals c =
    same_variables c.self.inside.kept c.brought_down-value.new.pool.items c.self.inside.pool.items c.brought_down-value.ensures.front
    c.self.inside.globals c.self.invariant.in_globals
    ∙ ap (λ (h : Holding). h.globals) c.self.view_is

pub returns-in-Some-clause-entries : goal.returns-in-Some-clause-entries
returns-in-Some-clause-entries c =
    ap (λ (es : List EntryState). map (state_in c.brought_down-value.new.pool.items) es) c.set.ensures
    ∙ given_in_view c.self.inside.pool.items c.brought_down-value.new.pool.items c.self.inside.stack.items c.self.inside.entries c.args.name c.args.at
    c.in-Some.top c.brought_down-value.result c.in-Some.ensures c.brought_down-value.ensures.value
    (same_entries c.self.inside.kept c.brought_down-value.new.pool.items c.self.inside.pool.items c.brought_down-value.ensures.front
    c.self.inside.entries c.self.invariant.in_entries)
    ∙ ap (λ (h : Holding). given_in_entry c.args.name (Some c.args.at) h.stack h.entries) c.self.view_is

pub returns-in-Some-clause-marks : goal.returns-in-Some-clause-marks
returns-in-Some-clause-marks c =
    given_in_marks c.args.name c.args.at c.self.inside.stack.items c.drop_top.new.self.items c.self.inside.globals c.self.inside.entries c.set.new.self
    c.in-Some.top c.brought_down-value.result c.in-Some.ensures c.drop_top.ensures.moved c.set.ensures c.brought_down-value.ensures.mark
    ∙ ap (λ (h : Holding). marks.given_in_entry c.args.name (Some c.args.at) h.marks.stack h.marks) c.self.view_is

pub returns-in_default-clause-marks : goal.returns-in_default-clause-marks
returns-in_default-clause-marks c =
    sym (ap (λ (h : Holding). h.marks) c.self.view_is)
    ∙ none_given_in c.args.name c.args.at c.self.inside.stack.items c.self.inside.globals c.self.inside.entries c.in_default.ensures
    ∙ ap (λ (h : Holding). marks.given_in_entry c.args.name (Some c.args.at) h.marks.stack h.marks) c.self.view_is
