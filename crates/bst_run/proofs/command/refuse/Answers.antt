use Rattle.bst_run.proofs.CommandLemmas.{usage_delivered, usage_given}
use Rattle.bst_run.proofs.DeliveryLemmas.{sinks_told}
use Rattle.bst_run.specs.Delivery.{sunk}
use Rattle.bst_run.proofs.command.refuse.Goals as goal

pub returns-clause-not_absent : goal.returns-clause-not_absent
returns-clause-not_absent g c =
    (usage_given c.deliver.result (sunk g.O.Sink c.args.out.now c.deliver.new.out) (sunk g.E.Sink c.args.err.now c.deliver.new.err)
    (usage_delivered c.usage.result c.deliver.result (sunk g.O.Sink c.args.out.now c.deliver.new.out) (sunk g.E.Sink c.args.err.now c.deliver.new.err) c.usage.ensures c.deliver.ensures)).0

pub returns-clause-not_unread : goal.returns-clause-not_unread
returns-clause-not_unread g c =
    (usage_given c.deliver.result (sunk g.O.Sink c.args.out.now c.deliver.new.out) (sunk g.E.Sink c.args.err.now c.deliver.new.err)
    (usage_delivered c.usage.result c.deliver.result (sunk g.O.Sink c.args.out.now c.deliver.new.out) (sunk g.E.Sink c.args.err.now c.deliver.new.err) c.usage.ensures c.deliver.ensures)).1.0

pub returns-clause-sinks : goal.returns-clause-sinks
returns-clause-sinks g c =
    sinks_told c.usage.result c.deliver.result (sunk g.O.Sink c.args.out.now c.deliver.new.out) (sunk g.E.Sink c.args.err.now c.deliver.new.err) c.deliver.ensures
    ((usage_given c.deliver.result (sunk g.O.Sink c.args.out.now c.deliver.new.out) (sunk g.E.Sink c.args.err.now c.deliver.new.err)
    (usage_delivered c.usage.result c.deliver.result (sunk g.O.Sink c.args.out.now c.deliver.new.out) (sunk g.E.Sink c.args.err.now c.deliver.new.err) c.usage.ensures c.deliver.ensures)).1.1)
