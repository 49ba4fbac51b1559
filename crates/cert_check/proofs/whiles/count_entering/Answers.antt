-- One state more.
use Rattle.std.proofs.Common.{Bool, ◌+◌, drop, length, subst, sym}
use Rattle.sym_state.specs.Demands.{without}
use Rattle.cert_check.specs.Walks.{entering_with, scope_of}
use Rattle.cert_check.proofs.WhileSteps.{IsCounted, counts_next, few_counted, next_at}
use Rattle.cert_check.proofs.whiles.count_entering.Goals as goal
use Rattle.cert_check.proofs.whiles.count_entering.Goals.{else-holds, then-holds}

pub loop-state-preserved : goal.loop-state-preserved
loop-state-preserved c =
    let states = c.args.states.now in
    let k = c.loop-state.state-index in
    let state = c.state-item.result in
    let step : IsCounted c.holds.result c.loop-state.count c.if-holds.count = elim c.if-holds.branch [
      | then-holds w ↦ subst (λ (held : Bool). IsCounted held c.loop-state.count c.if-holds.count) (sym w.if-holds.true) w.count-is
      | else-holds w ↦ subst (λ (held : Bool). IsCounted held c.loop-state.count c.if-holds.count) (sym w.if-holds.false) w.count-is
    ] in
    record {
      counted = λ make. counts_next (scope_of c.args.scope.now make) c.args.one.now (drop k states) (drop (k + 1) states) state (without 2 state) c.holds.result
          c.loop-state.count c.if-holds.count (length (entering_with (scope_of c.args.scope.now make) c.args.one.now states))
          (next_at states k state c.loop-state-test.true c.state-item.is) (c.holds.ensures make) step (c.loop-state.invariant.counted make);
      few = few_counted c.holds.result c.loop-state.count c.if-holds.count k step c.loop-state.invariant.few;
    }
