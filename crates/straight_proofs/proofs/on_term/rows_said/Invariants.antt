-- The rows of the references so far and of those that are left are all, and they are within their bounds.
use Rattle.std.proofs.Common.{◌≡◌, ◌++◌, drop}
use Rattle.std.specs.List.{All, filter_map}
use Rattle.lin_facts.specs.Rows.{IsSmall}
use Rattle.sym_state.specs.References.{row_said}
use Rattle.straight_proofs.proofs.on_term.rows_said.Given as goal

abbrev pub invariant-loop-reference : goal.invariant-loop-reference
invariant-loop-reference l = record {
  rows : l.rows.items ++ filter_map (row_said l.cond l.state) (drop l.reference-index l.references) ≡ filter_map (row_said l.cond l.state) l.references;
  small : All IsSmall l.rows.items;
}
