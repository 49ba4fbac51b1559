-- A loop that was made is used by the hints that are found for its case.
use Rattle.std.proofs.Common.{◌∷◌, List, arith, rules, subst}
use Rattle.std.proofs.lemmas.Option.{slice_get_within}
use Rattle.std.proofs.lemmas.Result.{err_from_is_err_and}
use Rattle.sym_state.specs.declared.hint.Hint.{Hint}
use Rattle.sym_state.specs.declared.hint.Hint.TheVariants as hint
use Rattle.sym_state.specs.declared.piece.Piece.{Piece}
use Rattle.cert_check.specs.Certified.{IsPieceOf}
use Rattle.cert_check.specs.Courses.{placed}
use Rattle.cert_check.specs.Here.{here}
use Rattle.cert_check.specs.Uses.{around}
use Rattle.cert_check.specs.Walks.{comes_to}
use Rattle.cert_check.proofs.Keeping.{element}
use Rattle.cert_check.proofs.WhileSteps.{came_ok, came_refused, case_refused, steps_refused, used_takes}
use Rattle.cert_check.specs.Given.{Refused}
use Rattle.cert_check.proofs.whiles.made_used.Goals as goal

pub piece_hints-requires-clause-rows : goal.piece_hints-requires-clause-rows
piece_hints-requires-clause-rows g c =
    (element (IsPieceOf c.args.at.now.scope.now.style c.args.one.now.entry) c.args.one.now.cases c.args.k c.in_ok-case.case.now c.requires.one.cases (search rules)).fit.rows

pub finds_loop-requires-clause-case : goal.finds_loop-requires-clause-case
finds_loop-requires-clause-case g c =
    let inside = slice_get_within c.args.one.now.cases c.args.k c.in_ok-case.case.now (search rules) in
    let few = c.requires.one.few in
    omega (arith, inside, few)

pub returns-in_err-case : goal.returns-in_err-case
returns-in_err-case g c =
    let p = err_from_is_err_and c.from_residual.result c.from_residual.ensures.1 in
    let admits = c.args.at.now.scope.now.cert.cond in
    rw (p.1, p.2)
    (record {
      takes = case_refused (here g.M.Loops.made c.args.at.now) c.args.at.now.place c.args.one.now c.args.number c.args.k c.args.state.now c.args.course.now
          c.in_err-case.field-0.0
          (subst (λ (l : List Piece). (hints : List Hint)
          → Refused (placed c.args.at.now.place (comes_to (around c.args.one.now) admits l c.args.state.now (hint.Case c.args.k ∷ hints))) c.in_err-case.field-0.0)
          c.as_slice.ensures (λ hints. c.in_err-case.ensures.comes (around c.args.one.now) admits hints));
    })

pub returns-in_err-placed : goal.returns-in_err-placed
returns-in_err-placed g c =
    let p = err_from_is_err_and c.from_residual-in_err-placed.result c.from_residual-in_err-placed.ensures.1 in
    rw (p.1, p.2)
    (record {
      takes = steps_refused (here g.M.Loops.made c.args.at.now) c.args.at.now.place c.args.one.now c.args.number c.args.k c.in_ok-case.case.now c.args.state.now
          c.args.course.now c.in_ok-steps.steps.items c.in_err-placed.field-0.0 (search rules) (search rules)
          (came_refused c.args.at.now.place c.around-unit.result (around c.args.one.now) c.cond-2.result.now c.args.at.now.scope.now.cert.cond c.new-left.result
          c.in_ok-steps.steps.items c.in_ok-case.case.now c.args.state.now c.comes_by.new.hints c.comes_by.result c.placed.result c.in_err-placed.field-0.0
          (search rules) (search rules) (search rules) c.placed.ensures c.in_err-placed.was c.comes_by.ensures.shown);
    })

pub returns : goal.returns
returns g c = record {
  takes = used_takes (here g.M.Loops.made c.args.at.now) c.args.at.now.place c.args.one.now c.args.number c.args.k c.in_ok-case.case.now c.args.state.now c.args.course.now
      c.finds_loop.new.self c.leaves_loop.new.course c.in_ok-steps.steps.items c.comes_by.new.hints c.leaves_loop.result (search rules) (search rules)
      (came_ok c.args.at.now.place c.around-unit.result (around c.args.one.now) c.cond-2.result.now c.args.at.now.scope.now.cert.cond c.new-left.result
      c.in_ok-steps.steps.items c.in_ok-case.case.now c.args.state.now c.comes_by.new.hints c.comes_by.result c.placed.result _ (search rules) (search rules)
      (search rules) c.placed.ensures c.in_ok-placed.was c.comes_by.ensures.shown)
      (search rules) c.leaves_loop.ensures.takes;
}
