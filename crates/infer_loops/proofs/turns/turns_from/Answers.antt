-- Turns from the cases of the states that enter, and then from those that were added.
use Rattle.std.proofs.Common.{◌≡◌, List, Ok, subst}
use Rattle.std.proofs.lemmas.Result.{on_ok_weaker}
use Rattle.sym_state.specs.declared.piece.Piece.{Piece}
use Rattle.loop_templates.specs.declared.candidates.Added.{Added}
use Rattle.cert_check.specs.Given.{Refused, Takes}
use Rattle.cert_check.specs.Tours.{turns_of}
use Rattle.cert_check.specs.Units.{everywhere}
use Rattle.cert_check.proofs.TourSteps.{kept_on}
use Rattle.infer_loops.specs.Invariants.{added_cases}
use Rattle.infer_loops.proofs.NextTurns.{both_take, first_stops, handed_on}
use Rattle.infer_loops.proofs.turns.turns_from.Goals as goal

pub returns-in_err-turns_of-clause-takes : goal.returns-in_err-turns_of-clause-takes
returns-in_err-turns_of-clause-takes c =
    let scope = everywhere c.args.checker.now.style c.args.checker.now.cert in
    handed_on _ _ c.from_residual.result c.in_err-turns_of.field-0.0 c.from_residual.ensures.1
    (first_stops scope c.args.one c.args.candidate.now.first (added_cases c.args.candidate.now.added) c.args.tour.now c.in_err-turns_of.field-0.0
    (subst (λ (cases : List Piece). Refused (turns_of scope c.args.one cases c.args.tour.now) c.in_err-turns_of.field-0.0) c.as_slice.ensures
    c.in_err-turns_of.ensures.takes))

pub returns-clause-takes : goal.returns-clause-takes
returns-clause-takes c =
    let scope = everywhere c.args.checker.now.style c.args.checker.now.cert in
    both_take scope c.args.one c.args.candidate.now.first (added_cases c.args.candidate.now.added) c.args.tour.now c.turns_of.new.tour c.turns_added.new.tour
    c.turns_added.result
    (subst (λ (cases : List Piece). turns_of scope c.args.one cases c.args.tour.now ≡ Ok c.turns_of.new.tour) c.as_slice.ensures c.in_ok-turns_of.ensures.takes)
    (subst (λ (added : List Added). Takes (turns_of scope c.args.one (added_cases added) c.turns_of.new.tour) c.turns_added.new.tour c.turns_added.result)
    c.as_slice-2.ensures c.turns_added.ensures.takes)

pub returns-clause-keeps : goal.returns-clause-keeps
returns-clause-keeps c =
    on_ok_weaker c.turns_added.result
    (λ kept. kept_on c.args.checker.now.style c.args.tour.now c.turns_of.new.tour c.turns_added.new.tour c.in_ok-turns_of.ensures.keeps kept)
    c.turns_added.ensures.keeps
