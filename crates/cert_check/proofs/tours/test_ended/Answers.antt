use Rattle.std.proofs.Common.{ℕ, sym, subst, arith}
use Rattle.cert_check.specs.Room.{HasRoom}
use Rattle.cert_check.specs.Here.{here}
use Rattle.cert_check.proofs.TourSteps.{kept_from, split_room, test_takes}
use Rattle.cert_check.proofs.tours.test_ended.Goals as goal

-- the cases of the integer
pub all_turned_or_left-requires-clause-cases : goal.all_turned_or_left-requires-clause-cases
all_turned_or_left-requires-clause-cases g c =
    split_room c.args.at.now.scope.now.style c.args.at.now.scope.now.cert.cond c.args.at.now.place c.args.state.now
    (record { operand = c.in_ok-operand.operand; rest = c.in_ok-operand.rest }) c.in_ok-cases.cases.items c.sign.new.self.count
    (subst (λ (count : ℕ). HasRoom c.args.at.now.scope.now.style 65 count c.args.state.now) (sym c.in_ok-cases.ensures.counted) c.requires.room)
    c.in_ok-operand.ensures.one c.in_ok-cases.ensures.cases

pub returns-clause-takes : goal.returns-clause-takes
returns-clause-takes g c =
    test_takes (here g.M.Loops.made c.args.at.now) c.args.at.now.place c.args.one c.args.state.now c.args.tour.now c.all_turned_or_left.new.tour
    (record { operand = c.in_ok-operand.operand; rest = c.in_ok-operand.rest }) c.in_ok-cases.cases.items c.sign.new.self c.all_turned_or_left.result
    c.in_ok-operand.ensures.one c.in_ok-cases.ensures.takes c.all_turned_or_left.ensures.takes

pub returns-clause-keeps : goal.returns-clause-keeps
returns-clause-keeps g c =
    let same = c.in_ok-cases.ensures.counted in
    kept_from c.args.at.now.scope.now.style c.args.tour.now c.all_turned_or_left.new.tour c.sign.new.self c.all_turned_or_left.result (omega (arith, same))
    c.all_turned_or_left.ensures.keeps
