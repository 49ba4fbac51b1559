-- The skeleton of the next state.
use Rattle.std.proofs.Common.{◌∙◌, map}
use Rattle.loop_templates.proofs.Made.{new_more}
use Rattle.loop_templates.proofs.candidates.new_skeletons.Goals as goal

pub loop-state-preserved : goal.loop-state-preserved
loop-state-preserved c =
    new_more (map (λ one. one.bones) c.args.added.now) c.loop-state.new.items c.push_new.new.new.items _ c.args.states.now c.loop-state.state-index
    c.state-item.result c.from_vec.result c.loop-state-test.true c.state-item.is (c.from_vec.ensures ∙ c.in_ok-bones.ensures) c.in_ok-push_new.ensures
    c.loop-state.invariant
