-- A state more is looked at.
use Rattle.std.proofs.Common.{rules, ◌<◌, ◌+◌, ◌&&◌, length, map, take, ◌∙◌, arith}
use Rattle.std.specs.List.{list_all}
use Rattle.lin_facts.specs.declared.row.Row.{Row}
use Rattle.loop_templates.specs.Candidates.{CanMatch, is_proved}
use Rattle.loop_templates.proofs.Marked.{as_many, passes_more, same_images, written_back}
use Rattle.loop_templates.proofs.OneByOne.{one_of_all}
use Rattle.loop_templates.proofs.lowering.proved_in_all.Goals as goal

pub mark_proved-requires-clause-state : goal.mark_proved-requires-clause-state
mark_proved-requires-clause-state c =
    let more : c.loop-state.state-index < length c.args.states.now = omega arith in
    (one_of_all (CanMatch (length c.args.case.now.stack)) (λ state. state.now) c.args.states.now c.loop-state.state-index c.state-item.result more
    c.state-item.is c.requires.states).0

pub mark_proved-requires-clause-stack : goal.mark_proved-requires-clause-stack
mark_proved-requires-clause-stack c =
    let more : c.loop-state.state-index < length c.args.states.now = omega arith in
    (one_of_all (CanMatch (length c.args.case.now.stack)) (λ state. state.now) c.args.states.now c.loop-state.state-index c.state-item.result more
    c.state-item.is c.requires.states).1

pub loop-state-preserved : goal.loop-state-preserved
loop-state-preserved c =
    let states = c.args.states.now in
    let rows = c.args.rows.now in
    let k = c.loop-state.state-index in
    let more : k < length states = omega arith in
    let test = is_proved c.args.cond.now c.args.case.now in
    let before = λ (row : Row). list_all (test row) (map (λ state. state.now) (take k states)) in
    let after = λ (row : Row). before row && test row c.state-item.result.now in
    let marked = c.in_ok-mark_proved.ensures before (c.as_mut_slice.ensures.value ∙ c.loop-state.invariant) in
    written_back _ c.mark_proved.new.marks c.loop-state.proved.items (as_many after before rows _ _ marked c.loop-state.invariant) (search rules)
    ∙ marked
    ∙ same_images after (λ row. list_all (test row) (map (λ state. state.now) (take (k + 1) states))) rows
    (λ row. passes_more (test row) (λ state. state.now) states k c.state-item.result more c.state-item.is)
