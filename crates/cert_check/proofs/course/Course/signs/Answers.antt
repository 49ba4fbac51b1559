use Rattle.cert_check.specs.Here.{here}
use Rattle.cert_check.proofs.TurnSteps.{signs_have, signs_take}
use Rattle.cert_check.proofs.course.Course.signs.Goals as goal

pub returns-clause-takes : goal.returns-clause-takes
returns-clause-takes g c turns =
    signs_take (λ cases. cases.items) (here g.M.Loops.made c.args.at.now) c.args.at.now.place turns c.args.state.now c.args.self.now c.above_in.new.self
    (record { operand = c.in_ok-operand.operand; rest = c.in_ok-operand.rest }) c.above_in.result c.in_ok-operand.ensures.one c.above_in.ensures.takes
    c.above_in.ensures.rest

pub returns-clause-cases : goal.returns-clause-cases
returns-clause-cases g c =
    signs_have (λ cases. cases.items) c.args.at.now.scope.now.style c.args.at.now.scope.now.cert.cond c.args.at.now.place c.args.state.now c.args.self.now.hints
    c.above_in.new.self.hints (record { operand = c.in_ok-operand.operand; rest = c.in_ok-operand.rest }) c.args.self.now.count c.above_in.result c.requires.room
    c.in_ok-operand.ensures.one c.above_in.ensures.takes
