-- A turn from one case more.
use Rattle.std.proofs.Common.{◌<◌, length, subst, sym, arith}
use Rattle.cert_check.specs.Certified.{IsPieceOf}
use Rattle.cert_check.specs.Units.{everywhere}
use Rattle.cert_check.proofs.TourSteps.{kept_on}
use Rattle.loop_templates.specs.declared.candidates.Added.{Added}
use Rattle.infer_loops.proofs.NextTurns.{added_done, added_stops, handed_on, next_added}
use Rattle.infer_loops.proofs.turns.turns_added.Goals as goal

pub find_turn-requires-clause-none : goal.find_turn-requires-clause-none
find_turn-requires-clause-none c = c.loop-one_added.invariant.keeps.none

pub find_turn-requires-clause-case : goal.find_turn-requires-clause-case
find_turn-requires-clause-case c =
    subst (λ (one : Added). IsPieceOf c.args.checker.now.style c.args.one.entry one.case) (sym c.one_added-item.is)
    (c.requires.added c.loop-one_added.one_added-index c.one_added-item.result (omega arith))

pub loop-one_added-preserved : goal.loop-one_added-preserved
loop-one_added-preserved c =
    let more : c.loop-one_added.one_added-index < length c.args.added.now = omega arith in
    record {
      turned = next_added (everywhere c.args.checker.now.style c.args.checker.now.cert) c.args.one c.args.added.now c.loop-one_added.one_added-index
          c.one_added-item.result c.loop-one_added.tour c.find_turn.new.tour _ more c.one_added-item.is c.loop-one_added.invariant.turned
          c.in_ok-find_turn.ensures.takes;
      keeps = kept_on c.args.checker.now.style c.args.tour.now c.loop-one_added.tour c.find_turn.new.tour c.loop-one_added.invariant.keeps
          c.in_ok-find_turn.ensures.keeps;
    }

pub returns-clause-takes : goal.returns-clause-takes
returns-clause-takes c =
    added_done (everywhere c.args.checker.now.style c.args.checker.now.cert) c.args.one c.args.added.now c.loop-one_added.one_added-index c.loop-one_added.tour _
    (omega arith) c.loop-one_added.invariant.turned

pub returns-in_err-find_turn-clause-takes : goal.returns-in_err-find_turn-clause-takes
returns-in_err-find_turn-clause-takes c =
    handed_on _ _ c.from_residual.result c.in_err-find_turn.field-0.0 c.from_residual.ensures.1
    (added_stops (everywhere c.args.checker.now.style c.args.checker.now.cert) c.args.one c.args.added.now c.loop-one_added.one_added-index c.one_added-item.result
    c.loop-one_added.tour _ c.in_err-find_turn.field-0.0 (omega arith) c.one_added-item.is c.loop-one_added.invariant.turned c.in_err-find_turn.ensures.takes)
