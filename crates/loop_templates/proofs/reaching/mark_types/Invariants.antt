-- The bodies of the functions that are left are marked yet.
use Rattle.std.proofs.Common.{◌≡◌, drop, flat_map}
use Rattle.bst_meaning.specs.StyleParts.{kind_of}
use Rattle.loop_templates.specs.Reaching.{own_body, with_bodies}
use Rattle.loop_templates.proofs.reaching.mark_types.Given as goal

abbrev pub invariant-loop-name : goal.invariant-loop-name
invariant-loop-name l =
    with_bodies (flat_map (λ name. own_body (kind_of l.style name)) (drop l.name-index l.types)) l.marks.items
    ≡ with_bodies (flat_map (λ name. own_body (kind_of l.style name)) l.types) l.initial.marks.items
