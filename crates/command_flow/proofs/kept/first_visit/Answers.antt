-- Both states are the one before all visits.
use Rattle.std.proofs.Common.{◌≡◌, List, [], ◌∷◌, true, false, ap, ◌∙◌}
use Rattle.std.proofs.lemmas.Result.{IfOk-weaker}
use Rattle.sym_state.specs.Starting.{started}
use Rattle.sym_state.specs.declared.piece.Piece.{Piece}
use Rattle.loop_templates.specs.Visits.{common_case}
use Rattle.command_flow.specs.Templates.{IsVisit, before_visits, first_visit, frame_left}
use Rattle.command_flow.proofs.FramesLeft.{first_is, first_stands}
use Rattle.command_flow.proofs.kept.first_visit.Goals as goal

pub returns-clause-first : goal.returns-clause-first
returns-clause-first c =
    let style = c.args.at.now.style.now in
    let admits = c.args.at.now.cond.now in
    let from = ap (λ (pieces : List Piece). started style admits pieces true false) c.from_ref-starts.ensures.value in
    IfOk-weaker c.case_left.result (λ case. case ≡ common_case (frame_left style admits c.args.name before_visits c.in_ok-start.start) (c.in_ok-state_of.field-0 ∷ []))
    (λ case. case ≡ first_visit style admits c.args.name c.args.between.now)
    (λ case is. first_is style admits c.args.name c.args.between.now c.in_ok-start.start c.in_ok-state_of.field-0 case (c.in_ok-start.ensures.started ∙ from)
    (c.in_ok-state_of.ensures.started ∙ from) is) c.case_left.ensures

pub returns-clause-visit : goal.returns-clause-visit
returns-clause-visit c =
    let style = c.args.at.now.style.now in
    let admits = c.args.at.now.cond.now in
    IfOk-weaker c.case_left.result (λ case. case ≡ first_visit style admits c.args.name c.args.between.now) (IsVisit style)
    (λ case is. first_stands style admits c.args.name c.args.between.now case is c.requires.at.sound c.requires.at.small c.requires.ready)
    (returns-clause-first c)
