use Rattle.cert_check.specs.Here.{here}
use Rattle.cert_check.proofs.TurnSteps.{tested_takes}
use Rattle.cert_check.proofs.turns.tested.Goals as goal

pub returns-clause-takes : goal.returns-clause-takes
returns-clause-takes g c =
    tested_takes (here g.M.Loops.made c.args.at.now) c.args.at.now.place c.args.one.now c.args.state.now c.args.course.now c.signs.new.self c.all_turned.new.course
    c.in_ok-cases.cases.items c.all_turned.result (c.in_ok-cases.ensures.takes c.args.one.now) c.all_turned.ensures.takes
