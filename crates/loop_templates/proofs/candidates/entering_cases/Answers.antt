-- The case of one more state is added.
use Rattle.std.proofs.Common.{subst, sym, drop}
use Rattle.sym_state.specs.WellMade.{WellMade}
use Rattle.loop_templates.specs.Cases.{entering_case}
use Rattle.loop_templates.proofs.OneByOne.{next_left, one_added}
use Rattle.loop_templates.proofs.candidates.entering_cases.Goals as goal

pub entering_case-requires-clause-state : goal.entering_case-requires-clause-state
entering_case-requires-clause-state c =
    subst (WellMade c.args.frame.now.style) (sym c.state-item.is) (c.requires.states c.loop-state.state-index c.state-item.result c.loop-state-test.true)

pub loop-state-preserved : goal.loop-state-preserved
loop-state-preserved c =
    one_added (entering_case c.args.frame.now) c.loop-state.pieces.items c.push.new.self.items _ c.in_ok-entering_case.field-0
    (drop c.loop-state.state-index c.args.states.now) _ c.state-item.result
    (next_left c.args.states.now c.loop-state.state-index c.state-item.result c.loop-state-test.true c.state-item.is) c.in_ok-entering_case.ensures
    c.in_ok-push.ensures.items c.loop-state.invariant
