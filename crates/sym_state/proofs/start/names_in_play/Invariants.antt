use Rattle.std.proofs.Common.{◌≡◌, ◌++◌, ◌<◌, length, drop}
use Rattle.std.specs.List.{All}
use Rattle.sym_state.specs.WellMade.{ids_from, takes_part}
use Rattle.sym_state.proofs.start.names_in_play.Given as goal

-- the names so far, and those among the names that are left
abbrev pub invariant-loop-id : goal.invariant-loop-id
invariant-loop-id l = record {
  names : l.names.items ++ ids_from (takes_part l.at_entry) l.id (drop l.id l.style.names) ≡ ids_from (takes_part l.at_entry) 0 l.style.names;
  within : All (λ name. name.0 < length l.style.names) l.names.items;
}
