use Rattle.std.proofs.Common.{◌≡◌, ℕ, List, ◌+◌, ◌++◌, ◌≤◌, length}
use Rattle.bv_base.specs.Levels.{pieces_after}
use Rattle.text_ops.specs.ChangeCase.{begins_title, behind_colon, changed_pieces, case_changed}
use Rattle.text_ops.proofs.change_case.change_case.Given as goal

abbrev pub invariant-loop-rest : goal.invariant-loop-rest
invariant-loop-rest l = record {
  before : List ℕ;
  title : l.before.title ≡ begins_title before;
  colon : l.before.colon ≡ behind_colon before;
  items : l.out.items ++ changed_pieces l.mode before (pieces_after 0 l.level l.rest) ≡ case_changed l.mode l.fn.s;
  bound : l.level + length l.rest ≤ length l.fn.s;
}

abbrev pub decreases-loop-rest : goal.decreases-loop-rest
decreases-loop-rest l = length l.rest
