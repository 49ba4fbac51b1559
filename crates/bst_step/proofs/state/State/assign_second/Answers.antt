-- The name is taken off, and the value assigned.
use Rattle.std.proofs.Common.{◌∙◌, Option, ap, ℕ}
use Rattle.bst_meaning.specs.Machine.{visited_index}
use Rattle.bst_meaning.specs.StyleParts as parts
use Rattle.bst_step.specs.MarkRules.{given}
use Rattle.bst_step.specs.Marks.{Marks}
use Rattle.bst_step.specs.State.{config_of}
use Rattle.bst_step.proofs.AssignSteps.{assigned_from_top}
use Rattle.bst_step.proofs.MarkMoves.{visited_same}
use Rattle.bst_step.proofs.state.State.assign_second.Goals as goal

pub returns-clause-moved : goal.returns-clause-moved
returns-clause-moved c =
    assigned_from_top c.args.style.now c.args.name c.args.self.now c.drop_top.new.self (config_of c.assign_top.new.self) c.drop_top.ensures.stack
    c.drop_top.ensures.globals c.drop_top.ensures.entries c.assign_top.ensures.moved

pub returns-clause-marks : goal.returns-clause-marks
returns-clause-marks c =
    c.assign_top.ensures.marks
    ∙ ap (λ (at : Option ℕ). given (parts.kind_of c.args.style.now c.args.name) c.args.name at c.drop_top.new.self.marks)
    (visited_same c.args.self.now c.drop_top.new.self c.drop_top.ensures.entries)
    ∙ ap (λ (m : Marks). given (parts.kind_of c.args.style.now c.args.name) c.args.name (visited_index (config_of c.args.self.now)) m) c.drop_top.ensures.marks
