-- The parts before are kept, and the part stands among those that are left.
use Rattle.std.proofs.Common.{◌≡◌, ◌++◌, length}
use Rattle.std.specs.List.{All}
use Rattle.lin_facts.specs.Rows.{IsWithin}
use Rattle.loop_templates.specs.Rows.{with_part}
use Rattle.loop_templates.proofs.in_piece.with_part.Given as goal

abbrev pub invariant-loop-left : goal.invariant-loop-left
invariant-loop-left l = record {
  placed : l.all.items ++ with_part l.part l.left ≡ with_part l.part l.parts;
  small : All (λ other. IsWithin 4 other.coefficient) l.left;
}

abbrev pub decreases-loop-left : goal.decreases-loop-left
decreases-loop-left l = length l.left
