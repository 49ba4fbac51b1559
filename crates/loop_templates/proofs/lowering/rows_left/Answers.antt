-- The states of the skeleton have stacks that are long enough.
use Rattle.std.proofs.Common.{ap, ◌∙◌, length, map}
use Rattle.loop_templates.specs.Skeletons.{states_of}
use Rattle.loop_templates.proofs.Made.{long_those}
use Rattle.loop_templates.proofs.lowering.rows_left.Goals as goal

pub proved_rows-requires-clause-states : goal.proved_rows-requires-clause-states
proved_rows-requires-clause-states c =
    long_those c.args.one.now.bones (length c.args.one.now.case.stack) c.args.turned.now (map (λ state. state.now) c.as_slice-2.result.now)
    (ap (map (λ state. state.now)) c.as_slice-2.ensures.value
    ∙ (c.in_ok-states.ensures ∙ ap (λ bones. states_of bones c.args.turned.now) c.as_slice.ensures))
    c.requires.made.stack c.requires.turned
