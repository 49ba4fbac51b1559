use Rattle.std.proofs.Common.{◌≡◌, List, ◌++◌, drop, length}
use Rattle.std.specs.Option.{option_map}
use Rattle.std.specs.List.{All}
use Rattle.lin_facts.specs.Rows.{IsSmall}
use Rattle.lin_facts.specs.declared.row.Row.{Row}
use Rattle.sym_state.specs.References.{rows_said}
use Rattle.sym_state.proofs.shows.rows_said.Given as goal

-- the rows so far and those of the references that are left are all rows
abbrev pub invariant-loop-used : goal.invariant-loop-used
invariant-loop-used l = record {
  said : option_map (λ (rest : List Row). l.rows.items ++ rest) (rows_said l.cond l.state (drop l.used-index l.uses)) ≡ rows_said l.cond l.state l.uses;
  small : All IsSmall l.rows.items;
  many : length l.rows.items ≡ l.used-index;
}
