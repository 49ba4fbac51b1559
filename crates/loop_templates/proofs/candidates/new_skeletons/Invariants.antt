-- The new skeletons so far, to which those of the states that are left come.
use Rattle.std.proofs.Common.{◌≡◌, drop, map}
use Rattle.std.specs.List.{fold}
use Rattle.loop_templates.specs.Skeletons.{new_skeletons, skeleton, with_new}
use Rattle.loop_templates.proofs.candidates.new_skeletons.Given as goal

abbrev pub invariant-loop-state : goal.invariant-loop-state
invariant-loop-state l = fold (λ new state. with_new (map (λ one. one.bones) l.added) new (skeleton state)) l.new.items (drop l.state-index l.states)
    ≡ new_skeletons (map (λ one. one.bones) l.added) l.states
