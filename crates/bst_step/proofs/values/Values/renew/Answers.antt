-- What variables hold is renewed over the pool.
use Rattle.std.proofs.Common.{length}
use Rattle.bst_step.proofs.HeldSteps.{entries_later, variables_later}
use Rattle.bst_step.proofs.values.Values.renew.Goals as goal

pub renew-renewed-requires-clause-globals : goal.renew-renewed-requires-clause-globals
renew-renewed-requires-clause-globals c =
    variables_later c.self.inside.kept (length c.self.inside.pool.items) c.self.invariant.in_front c.self.inside.globals c.self.invariant.in_globals

pub renew-renewed-requires-clause-entries : goal.renew-renewed-requires-clause-entries
renew-renewed-requires-clause-entries c =
    entries_later c.self.inside.kept (length c.self.inside.pool.items) c.self.invariant.in_front c.self.inside.entries c.self.invariant.in_entries
