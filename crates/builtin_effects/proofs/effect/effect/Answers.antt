-- The state after is that of the definition, which is well made.
use Rattle.std.proofs.Common.{subst, sym, ◌∙◌}
use Rattle.std.specs.List.{All}
use Rattle.std.proofs.lemmas.List.Elements.{All-drop}
use Rattle.sym_state.specs.Demands.{HasFewUses}
use Rattle.sym_state.specs.Effects.{rule_of}
use Rattle.sym_state.proofs.Ensured.{hints_left}
use Rattle.builtin_effects.proofs.Keeping.{effects_keep}
use Rattle.builtin_effects.proofs.effect.effect.Goals as goal

pub returns-clause-kept : goal.returns-clause-kept
returns-clause-kept c = λ made.
    let limits = c.limits_are_small.ensures in
    effects_keep c.args.style.now c.args.cond.now c.args.state.now c.args.op _ _
    (record { key = limits.key; preamble = limits.preamble }) made c.in_ok-after.ensures

pub returns-clause-few : goal.returns-clause-few
returns-clause-few c =
    let left = hints_left c.args.cond.now c.args.state.now (rule_of c.args.style.now c.args.cond.now c.args.state.now c.args.op) _ _ c.in_ok-after.ensures in
    subst (All HasFewUses) (sym left.are) (All-drop HasFewUses left.taken c.new-left.result
    (subst (All HasFewUses) (sym (c.new-left.ensures ∙ c.rest.ensures)) c.requires.hints))
