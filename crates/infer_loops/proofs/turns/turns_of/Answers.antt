-- A turn from one case more.
use Rattle.std.proofs.Common.{◌<◌, length, subst, sym, arith}
use Rattle.cert_check.specs.Certified.{IsPieceOf}
use Rattle.cert_check.specs.Units.{everywhere}
use Rattle.cert_check.proofs.TourSteps.{kept_on}
use Rattle.infer_loops.proofs.NextTurns.{handed_on, next_turn, turn_stops, turns_done}
use Rattle.infer_loops.proofs.turns.turns_of.Goals as goal

pub find_turn-requires-clause-none : goal.find_turn-requires-clause-none
find_turn-requires-clause-none c = c.loop-case.invariant.keeps.none

pub find_turn-requires-clause-case : goal.find_turn-requires-clause-case
find_turn-requires-clause-case c =
    subst (IsPieceOf c.args.checker.now.style c.args.one.entry) (sym c.case-item.is)
    (c.requires.cases c.loop-case.case-index c.case-item.result (omega arith))

pub loop-case-preserved : goal.loop-case-preserved
loop-case-preserved c =
    let more : c.loop-case.case-index < length c.args.cases.now = omega arith in
    record {
      turned = next_turn (everywhere c.args.checker.now.style c.args.checker.now.cert) c.args.one c.args.cases.now c.loop-case.case-index c.case-item.result
          c.loop-case.tour c.find_turn.new.tour _ more c.case-item.is c.loop-case.invariant.turned c.in_ok-find_turn.ensures.takes;
      keeps = kept_on c.args.checker.now.style c.args.tour.now c.loop-case.tour c.find_turn.new.tour c.loop-case.invariant.keeps c.in_ok-find_turn.ensures.keeps;
    }

pub returns-clause-takes : goal.returns-clause-takes
returns-clause-takes c =
    turns_done (everywhere c.args.checker.now.style c.args.checker.now.cert) c.args.one c.args.cases.now c.loop-case.case-index c.loop-case.tour _ (omega arith)
    c.loop-case.invariant.turned

pub returns-in_err-find_turn-clause-takes : goal.returns-in_err-find_turn-clause-takes
returns-in_err-find_turn-clause-takes c =
    handed_on _ _ c.from_residual.result c.in_err-find_turn.field-0.0 c.from_residual.ensures.1
    (turn_stops (everywhere c.args.checker.now.style c.args.checker.now.cert) c.args.one c.args.cases.now c.loop-case.case-index c.case-item.result
    c.loop-case.tour _ c.in_err-find_turn.field-0.0 (omega arith) c.case-item.is c.loop-case.invariant.turned c.in_err-find_turn.ensures.takes)
