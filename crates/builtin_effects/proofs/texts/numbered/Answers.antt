-- The steps are taken, and then the name and its pattern are well formed.
use Rattle.std.proofs.Common.{◌≡◌, List, sym, subst}
use Rattle.std.specs.Prelude.{pos}
use Rattle.lin_facts.specs.declared.row.Row.{Row}
use Rattle.lin_facts.specs.declared.row.Term.TheVariants.{Names, Value}
use Rattle.bst_meaning.specs.declared.condition.Cond.{Cond}
use Rattle.sym_state.specs.declared.demand.EffectFault.{EffectFault}
use Rattle.sym_state.specs.declared.demand.DemandKind.TheVariants.{BadNameIndex}
use Rattle.sym_state.specs.declared.hint.Hint.{Hint}
use Rattle.sym_state.specs.State.{State}
use Rattle.sym_state.specs.Demands.{Outcome, fails, outcome, two_steps, without}
use Rattle.sym_state.specs.Effects.{named}
use Rattle.sym_state.specs.References.{at_least, exceeds}
use Rattle.builtin_effects.specs.Given.{Gives}
use Rattle.builtin_effects.proofs.texts.numbered.Goals as goal

-- two steps by the rows and the fault of the definition
stepped : (admits : Cond) (state : State) (low first high second : Row) (fault wanted : EffectFault) (hints left : List Hint) (next : List Hint → Outcome)
    → low ≡ first → high ≡ second → fault ≡ wanted → ((n : List Hint → Outcome) → two_steps admits state low high fault hints n ≡ n left)
    → two_steps admits state first second wanted hints next ≡ next left
stepped admits state low first high second fault wanted hints left next l h f steps =
    subst (λ (x : Row). two_steps admits state x second wanted hints next ≡ next left) l
    (subst (λ (y : Row). two_steps admits state low y wanted hints next ≡ next left) h
    (subst (λ (z : EffectFault). two_steps admits state low high z hints next ≡ next left) f (steps next)))

pub returns : goal.returns
returns c =
    subst (λ (o : Outcome). Gives c.written.result c.both_steps.new.hints o)
    (sym (stepped c.args.at.now.cond.now c.args.at.now.state.now c.in_ok-low.low (at_least (Value c.args.i.0) (pos 1))
    c.in_ok-high.high (exceeds (Names c.args.s.0) (Value c.args.i.0) (pos 0)) c.unmet-fault.result (fails BadNameIndex 2)
    c.args.hints.now c.both_steps.new.hints
    (λ left. outcome c.args.at.now.cond.now c.args.at.now.state.now (named c.args.at.now.state.now c.args.s c.args.p (without 3 c.args.at.now.state.now)) left)
    c.in_ok-low.ensures.said c.in_ok-high.ensures.said c.unmet-fault.ensures c.in_ok-both_steps.ensures))
    (c.written.ensures c.both_steps.new.hints)
