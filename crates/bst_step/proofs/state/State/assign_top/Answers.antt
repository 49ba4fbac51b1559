-- The kind of the name says where the variable is.
use Rattle.std.proofs.Common.{◌≡◌, ◌∙◌, Option, false, true, subst, sym}
use Rattle.name_table.specs.declared.names.Kind.{Kind}
use Rattle.bst_step.specs.Moves.{is_of_entry}
use Rattle.bst_step.specs.State.{config_of}
use Rattle.bst_meaning.specs.Machine.{visited_index}
use Rattle.bst_meaning.specs.StyleParts as parts
use Rattle.bst_step.proofs.AssignSteps.{by_entry, globally_assigned}
use Rattle.bst_step.proofs.MarkMoves.{given_by_entry, given_by_style}
use Rattle.bst_step.proofs.state.State.assign_top.Goals as goal

pub returns-then-is_of_entry-clause-moved : goal.returns-then-is_of_entry-clause-moved
returns-then-is_of_entry-clause-moved c =
    c.assign_in_entry.ensures.moved
    ∙ by_entry (parts.kind_of c.args.style.now c.args.name) c.args.name c.args.self.now.values.stack (config_of c.args.self.now)
    (subst (λ (kind : Option Kind). is_of_entry kind ≡ true) c.kind_of.ensures (sym c.is_of_entry.ensures ∙ c.if-is_of_entry.true))

pub returns-else-is_of_entry-clause-moved : goal.returns-else-is_of_entry-clause-moved
returns-else-is_of_entry-clause-moved c =
    globally_assigned c.args.self.now c.give_globally.new.self (parts.kind_of c.args.style.now c.args.name) c.args.name
    (subst (λ (kind : Option Kind). is_of_entry kind ≡ false) c.kind_of.ensures (sym c.is_of_entry.ensures ∙ c.if-is_of_entry.false))
    c.give_globally.ensures.stack c.give_globally.ensures.globals c.give_globally.ensures.entries

pub returns-then-is_of_entry-clause-marks : goal.returns-then-is_of_entry-clause-marks
returns-then-is_of_entry-clause-marks c =
    c.assign_in_entry.ensures.marks
    ∙ given_by_entry (parts.kind_of c.args.style.now c.args.name) c.args.name (visited_index (config_of c.args.self.now)) c.args.self.now.values.marks
    (subst (λ (kind : Option Kind). is_of_entry kind ≡ true) c.kind_of.ensures (sym c.is_of_entry.ensures ∙ c.if-is_of_entry.true))

pub returns-else-is_of_entry-clause-marks : goal.returns-else-is_of_entry-clause-marks
returns-else-is_of_entry-clause-marks c =
    c.give_globally.ensures.marks
    ∙ given_by_style (parts.kind_of c.args.style.now c.args.name) c.args.name (visited_index (config_of c.args.self.now)) c.args.self.now.values.marks
    (subst (λ (kind : Option Kind). is_of_entry kind ≡ false) c.kind_of.ensures (sym c.is_of_entry.ensures ∙ c.if-is_of_entry.false))
