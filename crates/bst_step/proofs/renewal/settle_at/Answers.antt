-- The value is another string, or stays.
use Rattle.std.proofs.Common.{pos, sym}
use Rattle.bst_step.specs.declared.held.Held.TheVariants.{Int}
use Rattle.bst_step.proofs.PackedSteps.{one_counted, one_settled, one_stays}
use Rattle.bst_step.proofs.renewal.settle_at.Goals as goal

pub returns-then-not-moves-clause-settled : goal.returns-then-not-moves-clause-settled
returns-then-not-moves-clause-settled c =
    one_stays c.args.window c.args.to c.args.values.now c.args.at c.in-Some.value (Int (pos 0)) (sym c.in-Some.ensures)
    (c.if-not-moves.ensures.stays c.args.to)

pub returns-then-not-moves-clause-count : goal.returns-then-not-moves-clause-count
returns-then-not-moves-clause-count c =
    one_counted c.args.window c.args.values.now c.args.at c.in-Some.value (Int (pos 0)) 0 (sym c.in-Some.ensures) (sym c.if-not-moves.ensures.none)

pub returns-clause-settled : goal.returns-clause-settled
returns-clause-settled c =
    one_settled c.args.window c.args.to c.args.values.now c.set.new.self c.args.at c.in-Some.value (Int (pos 0)) c.settled.result (sym c.in-Some.ensures)
    c.settled.ensures c.set.ensures

pub returns-clause-count : goal.returns-clause-count
returns-clause-count c =
    one_counted c.args.window c.args.values.now c.args.at c.in-Some.value (Int (pos 0)) c.moved_count.result (sym c.in-Some.ensures) c.moved_count.ensures
