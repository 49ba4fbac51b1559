-- The cases are those of the definition, which are well made.
use Rattle.std.proofs.Common.{subst, sym, ◌∙◌}
use Rattle.std.specs.List.{All}
use Rattle.sym_state.specs.Demands.{HasFewUses}
use Rattle.refinements.proofs.HintsTaken.{labelled_hints_keep}
use Rattle.refinements.proofs.Kept.{above_made}
use Rattle.refinements.proofs.above.Goals as goal

pub returns-clause-kept : goal.returns-clause-kept
returns-clause-kept c = λ style made less.
    above_made style c.args.cond.now c.args.state.now c.args.sym _ _ made less c.in_ok-cases.ensures

pub returns-clause-few : goal.returns-clause-few
returns-clause-few c =
    labelled_hints_keep HasFewUses c.args.cond.now c.args.state.now c.args.sym _ _ c.in_ok-cases.ensures
    (subst (All HasFewUses) (sym (c.new-cursor.ensures ∙ c.rest.ensures)) c.requires.ready.proofs)
