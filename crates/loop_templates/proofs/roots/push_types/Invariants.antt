-- The bodies of the functions so far and of those that are left are all.
use Rattle.std.proofs.Common.{◌≡◌, ◌++◌, drop, flat_map}
use Rattle.bst_meaning.specs.StyleParts.{kind_of}
use Rattle.loop_templates.specs.Reaching.{own_body}
use Rattle.loop_templates.proofs.roots.push_types.Given as goal

abbrev pub invariant-loop-name : goal.invariant-loop-name
invariant-loop-name l =
    l.roots.items ++ flat_map (λ name. own_body (kind_of l.style name)) (drop l.name-index l.types)
    ≡ l.initial.roots.items ++ flat_map (λ name. own_body (kind_of l.style name)) l.types
