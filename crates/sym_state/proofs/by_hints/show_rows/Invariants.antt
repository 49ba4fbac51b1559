use Rattle.std.proofs.Common.{◌≡◌, ◌+◌, drop}
use Rattle.std.specs.List.{All}
use Rattle.sym_state.specs.Demands.{HasFewUses}
use Rattle.sym_state.specs.Matches.{matched_by}
use Rattle.sym_state.specs.Showing.{rows_by}
use Rattle.sym_state.proofs.by_hints.show_rows.Given as goal

-- the rows that are left are shown by the hints that are left where all rows are by all hints
abbrev pub invariant-loop-row : goal.invariant-loop-row
invariant-loop-row l = record {
  line : l.line ≡ l.first + l.row-index;
  left : rows_by (matched_by l.matching) l.cond l.state l.line (drop l.row-index l.rows) l.hints
      ≡ rows_by (matched_by l.matching) l.cond l.state l.first l.rows l.fn.hints;
  proofs : All HasFewUses l.hints;
}
