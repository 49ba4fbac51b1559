-- The symbols of the names so far, and of those that are left.
use Rattle.std.proofs.Common.{◌≡◌, ◌++◌, drop}
use Rattle.std.specs.List.{filter_map}
use Rattle.sym_state.specs.Changes.{bound}
use Rattle.loop_templates.proofs.places.push_bound.Given as goal

abbrev pub invariant-loop-name : goal.invariant-loop-name
invariant-loop-name l = l.taken.items ++ filter_map (λ name. bound name l.state) (drop l.name-index l.names)
    ≡ l.initial.taken.items ++ filter_map (λ name. bound name l.state) l.names
