-- The sums with the terms so far and with those that are left are all.
use Rattle.std.proofs.Common.{◌≡◌, ◌++◌, ◌∷◌, drop, flat_map, map}
use Rattle.loop_templates.specs.Sums.{choices, first_added}
use Rattle.loop_templates.proofs.signed_sums.push_threes_behind.Given as goal

abbrev pub invariant-loop-third : goal.invariant-loop-third
invariant-loop-third l =
    l.all.items ++ flat_map first_added (map (λ chosen. l.first ∷ chosen) (map (λ chosen. l.second ∷ chosen) (choices 1 (drop l.third-index l.terms)))) ≡ l.initial.all.items ++ flat_map first_added (map (λ chosen. l.first ∷ chosen) (map (λ chosen. l.second ∷ chosen) (choices 1 l.fn.terms)))
