-- The hints for `+` and `-`, whatever the rule by which exact integers are added.
use Rattle.std.proofs.Common.{◌≡◌, Result, subst, sym}
use Rattle.std.specs.Global.{Vec}
use Rattle.std.specs.Prelude.{◌+ℤ◌, ◌-ℤ◌}
use Rattle.name_table.specs.declared.builtin.Builtin.{Builtin}
use Rattle.name_table.specs.declared.builtin.Builtin.TheVariants as op
use Rattle.name_table.specs.declared.style.Style.{Style}
use Rattle.sym_state.specs.Effects.{rule_of}
use Rattle.sym_state.specs.declared.demand.EffectFault.{EffectFault}
use Rattle.sym_state.specs.declared.hint.Hint.{Hint}
use Rattle.straight_hints.specs.declared.at.At.{At}
use Rattle.straight_hints.specs.Given.{Finds, hints_at}
use Rattle.straight_hints.proofs.plain.hints_of.Goals as goal

by_op : (style : Style) (at : At) (o p : Builtin) (result : Result (Vec Hint) EffectFault) → o ≡ p
    → Finds result (hints_at at (rule_of style at.cond.now at.state.now p)) → Finds result (hints_at at (rule_of style at.cond.now at.state.now o))
by_op style at o p result is found = subst (λ (x : Builtin). Finds result (hints_at at (rule_of style at.cond.now at.state.now x))) (sym is) found

pub returns-in-Plus : goal.returns-in-Plus
returns-in-Plus c =
    by_op c.args.style.now c.args.at.now c.args.op op.Plus c.sum.result c.in-Plus.is (c.sum.ensures (λ a b. a +ℤ b))

pub returns-in-Minus : goal.returns-in-Minus
returns-in-Minus c =
    by_op c.args.style.now c.args.at.now c.args.op op.Minus c.sum-in-Minus.result c.in-Minus.is (c.sum-in-Minus.ensures (λ a b. a -ℤ b))
