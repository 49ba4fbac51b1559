-- A state holds two functions on top, or it doesn't.
use Rattle.sym_state.specs.Demands.{without}
use Rattle.cert_check.specs.Walks.{scope_of}
use Rattle.cert_check.proofs.WhileSteps.{held_none, held_rest}
use Rattle.cert_check.proofs.whiles.holds.Goals as goal

pub returns-in-Ok : goal.returns-in-Ok
returns-in-Ok c = λ make.
    held_rest (scope_of c.args.scope.now make) c.args.one.now c.args.state.now (without 2 c.args.state.now) c.in-Ok.lower c.in-Ok.upper c.exact_target-test.result
    c.exact_target-body.result c.are_same.result c.in-Ok.ensures c.exact_target-test.ensures c.exact_target-body.ensures c.are_same.ensures

pub returns-in-Err : goal.returns-in-Err
returns-in-Err c = λ make. held_none (scope_of c.args.scope.now make) c.args.one.now c.args.state.now c.in-Err.field-0 c.in-Err.ensures
