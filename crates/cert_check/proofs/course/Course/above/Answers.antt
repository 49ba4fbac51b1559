use Rattle.std.proofs.Common.{subst}
use Rattle.sym_state.specs.Demands.{Three}
use Rattle.cert_check.specs.Given.{GoesOn}
use Rattle.cert_check.specs.Walks.{cases_entered, choice}
use Rattle.cert_check.specs.Here.{here}
use Rattle.cert_check.proofs.TourSteps.{choice_goes}
use Rattle.cert_check.proofs.course.Course.above.Goals as goal

pub returns-clause-takes : goal.returns-clause-takes
returns-clause-takes g c enter call =
    let scope = (here g.M.Loops.made c.args.at.now) in
    let place = c.args.at.now.place in
    let three : Three = record { lowest = c.three.inside.lowest; middle = c.three.inside.middle; top = c.three.inside.top; rest = c.three.inside.rest } in
    subst (λ (three : Three). GoesOn (choice scope enter call place three c.args.self.now)
    (λ cases. cases_entered scope enter call place three cases.items c.sign.new.self) c.sign.result) c.three.view_is
    (choice_goes (λ cases. cases.items) scope enter call place three c.args.self.now c.sign.new.self c.sign.result c.sign.ensures.takes)
