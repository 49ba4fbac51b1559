-- The sums with the terms so far and with those that are left are all.
use Rattle.std.proofs.Common.{◌≡◌, ◌++◌, ◌∷◌, flat_map, length, map}
use Rattle.loop_templates.specs.Sums.{choices, first_added}
use Rattle.loop_templates.proofs.signed_sums.push_threes_with.Given as goal

abbrev pub invariant-loop-left : goal.invariant-loop-left
invariant-loop-left l =
    l.all.items ++ flat_map first_added (map (λ chosen. l.first ∷ chosen) (choices 2 (l.left))) ≡ l.initial.all.items ++ flat_map first_added (map (λ chosen. l.first ∷ chosen) (choices 2 l.fn.terms))

abbrev pub decreases-loop-left : goal.decreases-loop-left
decreases-loop-left l = length l.left
