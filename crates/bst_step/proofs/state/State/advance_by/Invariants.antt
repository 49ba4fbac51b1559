use Rattle.std.proofs.Common.{◌≡◌, ◌+◌, ◌≤◌}
use Rattle.bst_meaning.specs.Machine as rule
use Rattle.bst_step.specs.Machine.{HasEntriesOf}
use Rattle.bst_step.specs.MarkRules as rules
use Rattle.bst_step.specs.Room.{TakeRoom}
use Rattle.bst_step.specs.State.{config_of}
use Rattle.bst_step.proofs.state.State.advance_by.Given as goal

-- the steps that are left come to where all come to, the entries have their positions, and of the room a step takes one at most
abbrev pub invariant-loop-left : goal.invariant-loop-left
invariant-loop-left l =
    record {
      steps : rule.steps l.style l.left (config_of l.self) ≡ rule.steps l.style l.n (config_of l.fn.self);
      places : HasEntriesOf (config_of l.fn.self) (config_of l.self);
      marks : rules.marks_after_steps l.style l.left (config_of l.self) l.self.values.marks
          ≡ rules.marks_after_steps l.style l.n (config_of l.fn.self) l.fn.self.values.marks;
      within : l.left ≤ l.n;
      frames : l.fn.self.frames.room + l.left ≤ l.self.frames.room + l.n;
      values : l.fn.self.values.room + l.left ≤ l.self.values.room + l.n;
      takes : TakeRoom l.style l.n (config_of l.fn.self) → TakeRoom l.style l.left (config_of l.self);
    }

abbrev pub decreases-loop-left : goal.decreases-loop-left
decreases-loop-left l = l.left
