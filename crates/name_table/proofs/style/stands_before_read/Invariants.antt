use Rattle.std.proofs.Common.{◌≡◌, ◌&&◌, ◌||◌, drop}
use Rattle.name_table.specs.TypeTarget.{has_read, stands_before_read}
use Rattle.name_table.proofs.style.stands_before_read.Given as goal

abbrev pub invariant-loop-at : goal.invariant-loop-at
invariant-loop-at l =
    stands_before_read l.fn.id l.fn.commands
    ≡ ((l.defined && has_read (drop l.at-index l.commands)) || stands_before_read l.fn.id (drop l.at-index l.commands))
