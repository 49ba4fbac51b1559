use Rattle.std.proofs.Common.{None, refl}
use Rattle.std.proofs.lemmas.Result.{err_from_is_err_and}
use Rattle.cert_check.specs.Walks.{scope_of}
use Rattle.cert_check.proofs.TurnSteps.{loop_parts, loop_refused, loop_takes}
use Rattle.cert_check.proofs.turns.loop_checked.Goals as goal

pub returns-in_err-turned_from : goal.returns-in_err-turned_from
returns-in_err-turned_from c =
    let p = err_from_is_err_and c.from_residual.result c.from_residual.ensures.1 in
    rw (p.1, p.2)
    (loop_refused (scope_of c.args.scope.now None) c.args.one.now c.place_of-place.result c.new-course.result c.as_slice-2.result.now c.in_err-turned_from.field-0.0
    (loop_parts (scope_of c.args.scope.now None) c.args.one.now _ _ c.body_of.result c.place_of-place.result _ c.new-course.result c.requires.writes refl c.style-2.ensures
    c.style.ensures c.body_of.ensures c.place_of-place.ensures c.as_slice.ensures c.new-course.ensures)
    c.as_slice-2.ensures c.in_err-turned_from.ensures.takes)

pub returns : goal.returns
returns c =
    loop_takes (scope_of c.args.scope.now None) c.args.one.now c.place_of-place.result c.new-course.result c.turned_from.new.course c.as_slice-2.result.now c.none_left.result
    (loop_parts (scope_of c.args.scope.now None) c.args.one.now _ _ c.body_of.result c.place_of-place.result _ c.new-course.result c.requires.writes refl c.style-2.ensures
    c.style.ensures c.body_of.ensures c.place_of-place.ensures c.as_slice.ensures c.new-course.ensures)
    c.as_slice-2.ensures c.in_ok-turned_from.ensures.takes c.none_left.ensures
