use Rattle.std.proofs.Common.{◌≡◌, ◌+◌, drop, false}
use Rattle.bst_lex.specs.Pieces.{gap_length}
use Rattle.bst_lex.proofs.pieces.gap_length.Given as goal

abbrev pub invariant-loop-i : goal.invariant-loop-i
invariant-loop-i l = l.i + gap_length l.in_comment (drop l.i l.bytes) ≡ gap_length false l.bytes
