-- The sums of the terms so far and of those that are left are all.
use Rattle.std.proofs.Common.{◌≡◌, ◌++◌, flat_map, length}
use Rattle.loop_templates.specs.Sums.{choices, first_added}
use Rattle.loop_templates.proofs.signed_sums.push_twos.Given as goal

abbrev pub invariant-loop-left : goal.invariant-loop-left
invariant-loop-left l =
    l.all.items ++ flat_map first_added (choices 2 (l.left)) ≡ l.initial.all.items ++ flat_map first_added (choices 2 l.fn.terms)

abbrev pub decreases-loop-left : goal.decreases-loop-left
decreases-loop-left l = length l.left
