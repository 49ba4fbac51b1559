-- The cases are those of the definition, which are well made.
use Rattle.std.proofs.Common.{subst, sym, ◌∙◌}
use Rattle.std.specs.List.{All}
use Rattle.sym_state.specs.Demands.{HasFewUses}
use Rattle.refinements.proofs.HintsTaken.{hints_keep}
use Rattle.refinements.proofs.Kept.{split_made}
use Rattle.refinements.proofs.split.Goals as goal

pub returns-clause-kept : goal.returns-clause-kept
returns-clause-kept c = λ style made is.
    split_made style c.args.cond.now c.args.state.now c.args.test _ _ made is c.in_ok-states.ensures

pub returns-clause-few : goal.returns-clause-few
returns-clause-few c =
    hints_keep HasFewUses c.args.cond.now c.args.state.now c.args.test _ _ c.in_ok-states.ensures
    (subst (All HasFewUses) (sym (c.new-cursor.ensures ∙ c.rest.ensures)) c.requires.ready.proofs)
