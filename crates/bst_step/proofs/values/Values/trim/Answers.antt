-- What variables hold stays in the pool.
use Rattle.std.proofs.Common.{◌∙◌, arith}
use Rattle.bst_step.proofs.HeldSteps.{held_trimmed, same_holding}
use Rattle.bst_step.proofs.values.Values.trim.Goals as goal

pub invariant_of-self : goal.invariant_of-self
invariant_of-self c =
    held_trimmed c.self.inside.pool.items c.truncate.new.self.items c.self.inside.kept c.self.inside.stack.items c.self.inside.globals
    c.self.inside.entries c.truncate.ensures.items (omega arith) c.self.invariant

pub returns : goal.returns
returns c =
    same_holding c.self.inside.pool.items c.truncate.new.self.items c.self.inside.kept c.self.inside.stack.room c.self.inside.stack.items
    c.self.inside.globals c.self.inside.entries c.truncate.ensures.items (omega arith) c.self.invariant
    ∙ c.self.view_is
