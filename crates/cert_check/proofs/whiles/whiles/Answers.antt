-- All states of the token.
use Rattle.std.proofs.lemmas.Result.{err_from_is_err_and}
use Rattle.cert_check.specs.Here.{here}
use Rattle.cert_check.specs.Walks.{made_by}
use Rattle.cert_check.proofs.WhileSteps.{whiles_end, whiles_refused}
use Rattle.cert_check.proofs.whiles.whiles.Goals as goal

pub returns-in_err-whiles_taken : goal.returns-in_err-whiles_taken
returns-in_err-whiles_taken g c =
    let p = err_from_is_err_and c.from_residual.result c.from_residual.ensures.1 in
    rw (p.1, p.2)
    (record {
      takes = whiles_refused (made_by (g.M.Loops.made c.args.at.now.maker.now)) (here g.M.Loops.made c.args.at.now) c.args.at.now.place c.args.states.now
          c.none_made-made.result.items c.args.course.now c.in_err-whiles_taken.field-0.0 c.none_made-made.ensures.none c.in_err-whiles_taken.ensures.takes;
    })

pub returns : goal.returns
returns g c = record {
  takes = whiles_end (made_by (g.M.Loops.made c.args.at.now.maker.now)) (here g.M.Loops.made c.args.at.now) c.args.at.now.place c.args.states.now
      c.none_made-made.result.items _ c.args.course.now c.makes.new.self c.makes.result c.none_made-made.ensures.none c.in_ok-whiles_taken.ensures.takes c.makes.ensures;
}
