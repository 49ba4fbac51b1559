-- The top is taken off, and given to a variable of the entry that is visited, where one is.
use Rattle.std.proofs.Common.{◌∙◌, ℕ, None, Option, Some, ap, refl, sym}
use Rattle.bst_step.proofs.AssignSteps.{entry_assigned, nothing_given}
use Rattle.bst_step.specs.Marks.{given_in_entry}
use Rattle.bst_step.proofs.MarkMoves.{nothing_given_marks}
use Rattle.bst_step.proofs.state.State.assign_in_entry.Goals as goal

pub returns-in_default-clause-moved : goal.returns-in_default-clause-moved
returns-in_default-clause-moved c =
    entry_assigned c.args.self.now c.drop_top.new.self c.args.name None c.drop_top.ensures.stack c.drop_top.ensures.globals
    (c.drop_top.ensures.entries ∙ sym (nothing_given c.args.name c.args.self.now.values.stack c.args.self.now.values.entries)) c.in_default.ensures

pub returns-clause-moved : goal.returns-clause-moved
returns-clause-moved c =
    entry_assigned c.args.self.now c.give_in_entry.new.self c.args.name (Some c.in-Some.at) c.give_in_entry.ensures.stack
    c.give_in_entry.ensures.globals c.give_in_entry.ensures.entries c.in-Some.ensures

pub returns-in_default-clause-marks : goal.returns-in_default-clause-marks
returns-in_default-clause-marks c =
    c.drop_top.ensures.marks
    ∙ nothing_given_marks c.args.name c.args.self.now.values.marks.stack c.args.self.now.values.marks refl
    ∙ ap (λ (at : Option ℕ). given_in_entry c.args.name at c.args.self.now.values.marks.stack c.args.self.now.values.marks) c.in_default.ensures

pub returns-clause-marks : goal.returns-clause-marks
returns-clause-marks c =
    c.give_in_entry.ensures.marks
    ∙ ap (λ (at : Option ℕ). given_in_entry c.args.name at c.args.self.now.values.marks.stack c.args.self.now.values.marks) c.in-Some.ensures
