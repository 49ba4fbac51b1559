use Rattle.std.proofs.Common.{◌≡◌, ◌++◌, take}
use Rattle.std.specs.List.{flat_map}
use Rattle.bst_meaning.specs.StyleParts.{kind_of}
use Rattle.sym_state.specs.Starting.{own_facts}
use Rattle.sym_state.proofs.start.add_own_facts.Given as goal

-- the facts of the bindings so far are added
abbrev pub invariant-loop-bind : goal.invariant-loop-bind
invariant-loop-bind l =
    l.facts.items ≡ l.fn.facts.items ++ flat_map (λ bind. own_facts l.cond (kind_of l.style bind.name) bind) (take l.bind-index l.binds)
