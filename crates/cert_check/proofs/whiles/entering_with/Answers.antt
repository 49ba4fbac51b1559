-- One state more.
use Rattle.std.proofs.Common.{◌∙◌, ◌+◌, ap, drop, Vec, Global}
use Rattle.sym_state.specs.Demands.{without}
use Rattle.sym_state.specs.State.{State}
use Rattle.cert_check.specs.Walks.{entering_with, scope_of}
use Rattle.cert_check.proofs.WhileSteps.{enters_none, enters_one, next_at}
use Rattle.cert_check.proofs.whiles.entering_with.Goals as goal
use Rattle.cert_check.proofs.whiles.entering_with.Goals.{else-holds, then-holds+in_ok-push_rest}

pub loop-state-preserved : goal.loop-state-preserved
loop-state-preserved c =
    let states = c.args.states.now in
    let k = c.loop-state.state-index in
    let state = c.state-item.result in
    elim c.if-holds.branch [
      | then-holds+in_ok-push_rest w ↦ λ make.
          enters_one (scope_of c.args.scope.now make) c.args.one.now (drop k states) (drop (k + 1) states) c.loop-state.entering.items c.if-holds.entering.items
          (entering_with (scope_of c.args.scope.now make) c.args.one.now states) state (without 2 state) c.holds.result
          (next_at states k state c.loop-state-test.true c.state-item.is) w.if-holds.true (c.holds.ensures make)
          (ap (λ (v : Vec State Global). v.items) w.entering-is ∙ w.in_ok-push_rest.ensures) (c.loop-state.invariant make)
      | else-holds w ↦ λ make.
          enters_none (scope_of c.args.scope.now make) c.args.one.now (drop k states) (drop (k + 1) states) c.loop-state.entering.items c.if-holds.entering.items
          (entering_with (scope_of c.args.scope.now make) c.args.one.now states) state (without 2 state) c.holds.result
          (next_at states k state c.loop-state-test.true c.state-item.is) w.if-holds.false (c.holds.ensures make)
          (ap (λ (v : Vec State Global). v.items) w.entering-is) (c.loop-state.invariant make)
    ]
