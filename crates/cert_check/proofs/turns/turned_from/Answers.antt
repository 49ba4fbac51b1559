use Rattle.std.proofs.Common.{◌∷◌, ◌+◌, drop, sym, ap, ◌∙◌}
use Rattle.std.proofs.lemmas.Result.{err_from_is_err_and}
use Rattle.sym_state.specs.declared.piece.Piece.{Piece}
use Rattle.cert_check.specs.Here.{here}
use Rattle.cert_check.proofs.TurnSteps.{next_turned, turn_refused}
use Rattle.cert_check.proofs.WalkSteps.{item_at}
use Rattle.cert_check.proofs.turns.turned_from.Goals as goal

-- the next case
pub returns-in_err-turn : goal.returns-in_err-turn
returns-in_err-turn g c =
    let p = err_from_is_err_and c.from_residual.result c.from_residual.ensures.1 in
    rw (p.1, p.2)
    (record {
      takes = turn_refused (here g.M.Loops.made c.args.at.now) c.args.at.now.place c.args.one.now _ _ _ c.loop-case.course _ c.in_err-turn.field-0.0
          (item_at c.args.cases.now c.loop-case.case-index c.case-item.result c.loop-case-test.true
          ∙ ap (λ (piece : Piece). piece ∷ drop (c.loop-case.case-index + 1) c.args.cases.now) (sym c.case-item.is))
          c.loop-case.invariant.turned c.in_err-turn.ensures.takes;
    })

pub loop-case-preserved : goal.loop-case-preserved
loop-case-preserved g c = record {
  turned = next_turned (here g.M.Loops.made c.args.at.now) c.args.at.now.place c.args.one.now _ _ _ c.loop-case.course c.turn.new.course _
      (item_at c.args.cases.now c.loop-case.case-index c.case-item.result c.loop-case-test.true
      ∙ ap (λ (piece : Piece). piece ∷ drop (c.loop-case.case-index + 1) c.args.cases.now) (sym c.case-item.is))
      c.loop-case.invariant.turned c.in_ok-turn.ensures.takes;
  none = c.in_ok-turn.ensures.none;
}
