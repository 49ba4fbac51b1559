-- The entries are ordered over the same pool.
use Rattle.bst_step.proofs.HeldSteps.{held_sorted}
use Rattle.bst_step.proofs.values.Values.sort.Goals as goal

pub invariant_of-self : goal.invariant_of-self
invariant_of-self c =
    held_sorted c.self.inside.pool.items c.self.inside.kept c.self.inside.stack.items c.self.inside.globals c.self.inside.entries
    c.sort.new.self (c.sort.ensures.within c.self.inside.kept) c.self.invariant
