use Rattle.std.proofs.Common.{◌≡◌, take}
use Rattle.std.specs.List.{filter}
use Rattle.sym_state.specs.Starting.{has_kind}
use Rattle.sym_state.specs.WellMade.{is_field, is_variable}
use Rattle.sym_state.proofs.start.parted.Given as goal

-- of the bindings so far these pass
abbrev pub invariant-loop-bind : goal.invariant-loop-bind
invariant-loop-bind l = record {
  variables : l.variables.items ≡ filter (has_kind l.style (is_variable l.at_entry)) (take l.bind-index l.binds);
  fields : l.fields.items ≡ filter (has_kind l.style (is_field l.at_entry)) (take l.bind-index l.binds);
}
