-- Of the slots fewer are items.
use Rattle.std.proofs.Common.{ap, ◌∙◌, ℕ, take, drop, reverse}
use Rattle.bst_step.specs.Stack.{Pile}
use Rattle.bst_step.proofs.StackSteps.{fewer_held}
use Rattle.bst_step.proofs.stack.Stack.drop_top.Goals as goal

pub returns-clause-moved : goal.returns-clause-moved
returns-clause-moved g c =
    ap (λ (n : ℕ). reverse (take n c.self.inside.slots.items)) c.saturating_sub-self-inside.ensures
    ∙ fewer_held c.self.inside.slots.items c.self.inside.count c.args.taken c.self.invariant
    ∙ ap (λ (p : Pile g.row.T.Denot). drop c.args.taken p.items) c.self.view_is
