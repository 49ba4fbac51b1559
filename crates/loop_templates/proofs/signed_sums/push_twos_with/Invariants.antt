-- The sums with the terms so far and with those that are left are all.
use Rattle.std.proofs.Common.{◌≡◌, ◌++◌, ◌∷◌, drop, flat_map, map}
use Rattle.loop_templates.specs.Sums.{choices, first_added}
use Rattle.loop_templates.proofs.signed_sums.push_twos_with.Given as goal

abbrev pub invariant-loop-second : goal.invariant-loop-second
invariant-loop-second l =
    l.all.items ++ flat_map first_added (map (λ chosen. l.first ∷ chosen) (choices 1 (drop l.second-index l.terms))) ≡ l.initial.all.items ++ flat_map first_added (map (λ chosen. l.first ∷ chosen) (choices 1 l.fn.terms))
