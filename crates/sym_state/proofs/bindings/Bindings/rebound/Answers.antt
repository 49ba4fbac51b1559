use Rattle.std.proofs.Common.{◌≡◌, ap, subst, sym, ◌∙◌, reverse, is_some}
use Rattle.std.proofs.lemmas.Result.{IfOk-weaker}
use Rattle.sym_state.specs.Changes.{rebound, symbol_at}
use Rattle.sym_state.proofs.Rebound.{changed_none}
use Rattle.sym_state.proofs.bindings.Bindings.rebound.Goals as goal

pub returns-then-is_none : goal.returns-then-is_none
returns-then-is_none c =
    let none = sym (ap is_some c.symbol_at.ensures ∙ ap (λ binds. is_some (symbol_at c.args.name binds)) (c.as_slice.ensures ∙ c.deref.ensures)) ∙ c.if-is_none.ensures in
    IfOk-weaker c.branch-self.result _ _
    (λ new is. is ∙ sym (subst (λ binds. rebound c.args.name c.args.sym binds ≡ binds) c.self.view_is
    (changed_none c.args.name c.args.sym (reverse c.self.inside.changes) c.self.inside.first.value none)))
    c.branch-self.ensures
