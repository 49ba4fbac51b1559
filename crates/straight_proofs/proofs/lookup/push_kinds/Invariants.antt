-- Those of the kinds so far and of the kinds that are left are all.
use Rattle.std.proofs.Common.{◌≡◌, ◌++◌, drop}
use Rattle.std.specs.List.{flat_map}
use Rattle.straight_proofs.specs.Lookup.{each_below}
use Rattle.straight_proofs.proofs.lookup.push_kinds.Given as goal

abbrev pub invariant-loop-kind : goal.invariant-loop-kind
invariant-loop-kind l =
    l.all.items ++ flat_map (each_below l.next) (drop l.kind-index l.kinds) ≡ l.initial.all.items ++ flat_map (each_below l.next) l.kinds
