-- Nothing is held that was made.
use Rattle.std.proofs.Common.{List, ℕ, ap, map}
use Rattle.bst_step.specs.declared.held.Held.{Held}
use Rattle.bst_step.specs.Held.{value_in}
use Rattle.bst_step.specs.EntryStates.{state_in}
use Rattle.bst_step.specs.Variables.{variable_in}
use Rattle.bst_step.proofs.HeldSteps.{held_new}
use Rattle.bst_step.specs.Marks.{marks_in}
use Rattle.bst_step.proofs.values.Values.new.Goals as goal

pub invariant_of-result : goal.invariant_of-result
invariant_of-result c =
    held_new c.new.result.items c.new-2.result.items c.args.globals c.args.entries c.new-2.ensures c.requires.globals c.requires.entries

pub returns-clause-stack : goal.returns-clause-stack
returns-clause-stack c = ap (λ (hs : List Held). map (value_in c.new.result.items) hs) c.new-2.ensures

pub returns-clause-globals : goal.returns-clause-globals
returns-clause-globals c = ap (λ (pool : List ℕ). map (variable_in pool) c.args.globals) c.new.ensures.items

pub returns-clause-entries : goal.returns-clause-entries
returns-clause-entries c = ap (λ (pool : List ℕ). map (state_in pool) c.args.entries) c.new.ensures.items

pub returns-clause-marks : goal.returns-clause-marks
returns-clause-marks c = ap (λ (hs : List Held). marks_in hs c.args.globals c.args.entries) c.new-2.ensures
