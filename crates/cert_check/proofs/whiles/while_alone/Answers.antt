-- The state is the only one.
use Rattle.std.proofs.Common.{[], refl}
use Rattle.std.proofs.lemmas.Result.{err_from_is_err_and}
use Rattle.sym_state.specs.WellMade.{WellMade}
use Rattle.cert_check.specs.Here.{here}
use Rattle.cert_check.specs.Walks.{made_by}
use Rattle.cert_check.proofs.WhileSteps.{all_only, alone_refused, alone_take, among_only}
use Rattle.cert_check.proofs.whiles.while_alone.Goals as goal

pub while_taken-requires-clause-states : goal.while_taken-requires-clause-states
while_taken-requires-clause-states g c = all_only (WellMade c.args.at.now.scope.now.style) c.args.state.now c.from_ref.result.now c.from_ref.ensures.value c.requires.room.made

pub while_taken-requires-clause-among : goal.while_taken-requires-clause-among
while_taken-requires-clause-among g c = among_only c.args.state.now c.from_ref.result.now c.from_ref.ensures.value

pub returns-in_err-while_taken : goal.returns-in_err-while_taken
returns-in_err-while_taken g c =
    let p = err_from_is_err_and c.from_residual.result c.from_residual.ensures.1 in
    rw (p.1, p.2)
    (record {
      takes = alone_refused (made_by (g.M.Loops.made c.args.at.now.maker.now)) (here g.M.Loops.made c.args.at.now) c.args.at.now.place c.from_ref.result.now []
          c.args.state.now c.none_made-made.result.items c.args.course.now c.in_err-while_taken.field-0.0 c.from_ref.ensures.value refl c.none_made-made.ensures.none
          c.in_err-while_taken.ensures.takes;
    })

pub returns : goal.returns
returns g c = record {
  takes = alone_take (made_by (g.M.Loops.made c.args.at.now.maker.now)) (here g.M.Loops.made c.args.at.now) c.args.at.now.place c.from_ref.result.now []
      c.args.state.now c.none_made-made.result.items _ c.args.course.now c.makes.new.self c.makes.result c.from_ref.ensures.value refl c.none_made-made.ensures.none
      c.in_ok-while_taken.ensures.takes c.makes.ensures;
}
