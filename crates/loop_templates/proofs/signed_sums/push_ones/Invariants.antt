-- The sums of the terms so far and of those that are left are all.
use Rattle.std.proofs.Common.{◌≡◌, ◌++◌, drop, flat_map}
use Rattle.loop_templates.specs.Sums.{choices, first_added}
use Rattle.loop_templates.proofs.signed_sums.push_ones.Given as goal

abbrev pub invariant-loop-term : goal.invariant-loop-term
invariant-loop-term l =
    l.all.items ++ flat_map first_added (choices 1 (drop l.term-index l.terms)) ≡ l.initial.all.items ++ flat_map first_added (choices 1 l.fn.terms)
