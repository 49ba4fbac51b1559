-- The slot is written that stands as far below the top.
use Rattle.std.proofs.Common.{ap, false, true, ◌≡◌, ◌∙◌, ◌<◌, length, reverse, take, arith}
use Rattle.std.proofs.Math.ListN.{set}
use Rattle.bst_step.specs.Stack.{Pile}
use Rattle.bst_step.proofs.StackSteps.{as_many, held_set_at}
use Rattle.bst_step.proofs.stack.Stack.replace.Goals as goal
use Rattle.bst_step.proofs.stack.Stack.replace.Goals.{in-Some, in_default}

pub returns-clause-moved : goal.returns-clause-moved
returns-clause-moved g c =
    let some : c.args.depth < c.self.inside.count =
    omega (arith, c.requires, ap (λ (p : Pile g.row.T.Denot). length p.items) c.self.view_is, as_many c.self.inside.slots.items c.self.inside.count c.self.invariant) in
    elim c.match-get_mut.branch [
      | in-Some w ↦
          ap (λ s. reverse (take s.count s.slots.items)) w.self-inside-is
          ∙ held_set_at c.self.inside.slots.items c.self.inside.count c.args.depth c.args.item c.self.invariant some
          ∙ ap (λ (p : Pile g.row.T.Denot). set p.items c.args.depth c.args.item) c.self.view_is
      | in_default w ↦ let wrong : false ≡ true = w.in_default.ensures.variant.1 (omega (arith, some, c.self.invariant)) in absurd (cc)
    ]
