use Rattle.std.proofs.Common.{◌≡◌, ◌≤◌, drop, length}
use Rattle.name_table.specs.TypeTarget.{has_read}
use Rattle.bst_step.specs.Prepared.{AreDefined}
use Rattle.bst_step.proofs.prepared.defined_before_read.Given as goal

-- of the commands from here on it is known whether READ is among them, and what is defined in front of it
abbrev pub invariant-loop-at : goal.invariant-loop-at
invariant-loop-at l = record {
  read : l.read ≡ has_read (drop l.at l.commands);
  defined : AreDefined l.table.items l.style.names (drop l.at l.commands);
  all : length l.table.items ≡ length l.style.names;
  within : l.at ≤ length l.commands;
  commands : l.commands ≡ l.style.commands;
}

abbrev pub decreases-loop-at : goal.decreases-loop-at
decreases-loop-at l = l.at
