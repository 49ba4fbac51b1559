use Rattle.std.proofs.Common.{List, refl, ap, subst, ◌∙◌, None}
use Rattle.std.proofs.lemmas.Result.{err_from_is_err_and}
use Rattle.bst_meaning.specs.declared.condition.Cond.{Cond}
use Rattle.sym_state.specs.declared.piece.Piece.{Piece}
use Rattle.cert_check.specs.Units.{beginning}
use Rattle.cert_check.specs.Walks.{scope_of}
use Rattle.cert_check.proofs.UnitSteps.{Checks, at_end, own_ends, own_room, started_is, summary_parts, unit_checks, unit_refused}
use Rattle.cert_check.proofs.units.summary_checked.Goals as goal

-- the walk begins in the state that the pre starts
pub own_walked-requires-clause-room : goal.own_walked-requires-clause-room
own_walked-requires-clause-room c =
    own_room (scope_of c.args.scope.now None) c.args.summary.now c.in_ok-state.state c.new-course.result c.requires.sound.sound c.requires.sound.certified tt c.requires.summary
    (started_is c.args.scope.now.style c.style-3.result.now c.args.scope.now.cert.cond c.cond.result.now c.from_ref-pieces.result.now c.args.summary.now.pre
    c.args.summary.now.whole c.args.summary.now.entry c.start.result c.in_ok-state.state c.in_ok-state.ensures c.start.ensures.started c.style-3.ensures c.cond.ensures
    c.from_ref-pieces.ensures.value)
    (c.new-course.ensures ∙ ap beginning c.as_slice.ensures)

-- it fails
pub returns-in_err-own_walked : goal.returns-in_err-own_walked
returns-in_err-own_walked c =
    let p = err_from_is_err_and c.from_residual-in_err-own_walked.result c.from_residual-in_err-own_walked.ensures.1 in
    rw (p.1, p.2)
    (unit_refused (scope_of c.args.scope.now None) c.args.summary.now c.body_of-body.result c.place_of-place.result c.in_ok-state.state _ c.new-course.result
    c.in_err-own_walked.field-0.0
    (summary_parts (scope_of c.args.scope.now None) c.args.summary.now _ _ c.body_of-body.result c.place_of-place.result c.in_ok-state.state _ c.requires.writes refl
    c.style.ensures c.style-2.ensures c.body_of-body.ensures c.place_of-place.ensures
    (started_is c.args.scope.now.style c.style-3.result.now c.args.scope.now.cert.cond c.cond.result.now c.from_ref-pieces.result.now c.args.summary.now.pre
    c.args.summary.now.whole c.args.summary.now.entry c.start.result c.in_ok-state.state c.in_ok-state.ensures c.start.ensures.started c.style-3.ensures c.cond.ensures
    c.from_ref-pieces.ensures.value) refl)
    (c.new-course.ensures ∙ ap beginning c.as_slice.ensures) c.in_err-own_walked.ensures.takes)

-- the states at its end
pub ends-requires-clause-states : goal.ends-requires-clause-states
ends-requires-clause-states c =
    own_ends (scope_of c.args.scope.now None) c.place_of-place.result c.args.summary.now.body c.body_of-body.result c.in_ok-state.state c.new-course.result c.own_walked.new.course
    c.args.summary.now.hints c.requires.sound.sound c.requires.sound.certified tt
    (own_room (scope_of c.args.scope.now None) c.args.summary.now c.in_ok-state.state c.new-course.result c.requires.sound.sound c.requires.sound.certified tt c.requires.summary
    (started_is c.args.scope.now.style c.style-3.result.now c.args.scope.now.cert.cond c.cond.result.now c.from_ref-pieces.result.now c.args.summary.now.pre
    c.args.summary.now.whole c.args.summary.now.entry c.start.result c.in_ok-state.state c.in_ok-state.ensures c.start.ensures.started c.style-3.ensures c.cond.ensures
    c.from_ref-pieces.ensures.value)
    (c.new-course.ensures ∙ ap beginning c.as_slice.ensures))
    (c.new-course.ensures ∙ ap beginning c.as_slice.ensures) c.in_ok-own_walked.ensures.takes

pub returns : goal.returns
returns c =
    unit_checks (scope_of c.args.scope.now None) c.args.summary.now c.body_of-body.result c.place_of-place.result c.in_ok-state.state c.symbols_of-kept.result c.new-course.result
    c.own_walked.new.course c.ends.result
    (summary_parts (scope_of c.args.scope.now None) c.args.summary.now _ _ c.body_of-body.result c.place_of-place.result c.in_ok-state.state c.symbols_of-kept.result
    c.requires.writes refl c.style.ensures c.style-2.ensures c.body_of-body.ensures c.place_of-place.ensures
    (started_is c.args.scope.now.style c.style-3.result.now c.args.scope.now.cert.cond c.cond.result.now c.from_ref-pieces.result.now c.args.summary.now.pre
    c.args.summary.now.whole c.args.summary.now.entry c.start.result c.in_ok-state.state c.in_ok-state.ensures c.start.ensures.started c.style-3.ensures c.cond.ensures
    c.from_ref-pieces.ensures.value) c.symbols_of-kept.ensures)
    (c.new-course.ensures ∙ ap beginning c.as_slice.ensures) c.in_ok-own_walked.ensures.takes
    (subst (λ (admits : Cond). Checks (at_end admits c.place_of-place.result c.symbols_of-kept.result c.args.summary.now.posts c.own_walked.new.course) c.ends.result)
    c.cond-2.ensures
    (subst (λ (pieces : List Piece). Checks (at_end c.cond-2.result.now c.place_of-place.result c.symbols_of-kept.result pieces c.own_walked.new.course) c.ends.result)
    c.as_slice-2.ensures c.ends.ensures))
