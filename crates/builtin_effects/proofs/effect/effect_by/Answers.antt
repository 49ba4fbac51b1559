-- The built-in functions that take no hint.
use Rattle.std.proofs.Common.{◌≡◌, inl, inr, List, Result, sym, subst}
use Rattle.name_table.specs.declared.builtin.Builtin.{Builtin}
use Rattle.name_table.specs.declared.builtin.Builtin.TheVariants as op
use Rattle.name_table.specs.declared.style.Style.{Style}
use Rattle.sym_state.specs.declared.demand.EffectFault.{EffectFault}
use Rattle.sym_state.specs.declared.hint.Hint.{Hint}
use Rattle.sym_state.specs.State.{State}
use Rattle.sym_state.specs.Effects.{rule_of}
use Rattle.builtin_effects.specs.declared.at.At.{At}
use Rattle.builtin_effects.specs.Given.{Gives, outcome_at}
use Rattle.builtin_effects.proofs.effect.effect_by.Goals as goal

by_op : (style : Style) (at : At) (o p : Builtin) (hints : List Hint) (result : Result State EffectFault) → o ≡ p
    → ((left : List Hint) → Gives result left (outcome_at at (rule_of style at.cond.now at.state.now p) left))
    → Gives result hints (outcome_at at (rule_of style at.cond.now at.state.now o) hints)
by_op style at o p hints result is h =
    subst (λ (x : Builtin). Gives result hints (outcome_at at (rule_of style at.cond.now at.state.now x) hints)) (sym is) (h hints)

pub returns-in-Duplicate : goal.returns-in-Duplicate
returns-in-Duplicate c = by_op c.args.style.now c.args.at.now c.args.op op.Duplicate c.args.hints.now c.duplicate.result c.in-Duplicate.is c.duplicate.ensures

pub returns-in-Join : goal.returns-in-Join
returns-in-Join c = by_op c.args.style.now c.args.at.now c.args.op op.Join c.args.hints.now c.join.result c.in-Join.is c.join.ensures

pub returns-in-AddPeriod : goal.returns-in-AddPeriod
returns-in-AddPeriod c = by_op c.args.style.now c.args.at.now c.args.op op.AddPeriod c.args.hints.now c.add_period.result c.in-AddPeriod.is c.add_period.ensures

pub returns-in-ChangeCase : goal.returns-in-ChangeCase
returns-in-ChangeCase c = by_op c.args.style.now c.args.at.now c.args.op op.ChangeCase c.args.hints.now c.change_case.result c.in-ChangeCase.is c.change_case.ensures

pub returns-in-IntToStr : goal.returns-in-IntToStr
returns-in-IntToStr c = by_op c.args.style.now c.args.at.now c.args.op op.IntToStr c.args.hints.now c.int_to_str.result c.in-IntToStr.is c.int_to_str.ensures

pub returns-in-Pop : goal.returns-in-Pop
returns-in-Pop c = elim c.in-Pop.is [
  | inl is ↦ by_op c.args.style.now c.args.at.now c.args.op op.Pop c.args.hints.now c.pop.result is c.pop.ensures
  | inr is ↦ by_op c.args.style.now c.args.at.now c.args.op op.Top c.args.hints.now c.pop.result is c.pop.ensures
]

pub returns-in-Purify : goal.returns-in-Purify
returns-in-Purify c = by_op c.args.style.now c.args.at.now c.args.op op.Purify c.args.hints.now c.purify.result c.in-Purify.is c.purify.ensures

pub returns-in-Swap : goal.returns-in-Swap
returns-in-Swap c = by_op c.args.style.now c.args.at.now c.args.op op.Swap c.args.hints.now c.swap.result c.in-Swap.is c.swap.ensures

pub returns-in-TextPrefix : goal.returns-in-TextPrefix
returns-in-TextPrefix c = by_op c.args.style.now c.args.at.now c.args.op op.TextPrefix c.args.hints.now c.text_prefix.result c.in-TextPrefix.is c.text_prefix.ensures

pub returns-in-Warning : goal.returns-in-Warning
returns-in-Warning c = elim c.in-Warning.is [
  | inl is ↦ by_op c.args.style.now c.args.at.now c.args.op op.Warning c.args.hints.now c.pop_string.result is c.pop_string.ensures
  | inr is ↦ by_op c.args.style.now c.args.at.now c.args.op op.Write c.args.hints.now c.pop_string.result is c.pop_string.ensures
]
