-- What was gathered is put behind the finished part, and is seen as it was.
use Rattle.std.proofs.Common.{arith}
use Rattle.bst_step.proofs.SettledSteps.{globals_fit, globals_renewed, has_moved, has_no_room, own_fit, own_renewed}
use Rattle.bst_step.proofs.renewal.put_window.Goals as goal

pub returns-then-window-moved-clause-parted : goal.returns-then-window-moved-clause-parted
returns-then-window-moved-clause-parted c =
    has_no_room c.args.window c.args.next c.args.pool.now.items c.args.moved.now c.args.globals.now c.args.own.now c.requires.gathered
    (omega (arith, c.if-window-moved.true))
    (omega (arith, c.requires.gathered.parted.here, c.args.pool.now.ok.0, c.args.pool.now.ok.1, c.args.pool.now.small))

pub settle_values-end-requires : goal.settle_values-end-requires
settle_values-end-requires c =
    let fit =
    globals_fit c.args.window c.args.next c.args.pool.now.items c.args.moved.now c.args.globals.now c.args.own.now c.requires.gathered c.put_over.new.pool.items
    (omega (arith, c.if-window-moved.false)) c.in_ok-put_over.ensures.put in
    omega (arith, fit, c.put_over.new.pool.ok.0, c.put_over.new.pool.ok.1, c.put_over.new.pool.small)

pub settle_packed-requires : goal.settle_packed-requires
settle_packed-requires c =
    let fit =
    own_fit c.args.window c.args.next c.args.pool.now.items c.args.moved.now c.args.globals.now c.args.own.now c.requires.gathered c.put_over.new.pool.items
    (omega (arith, c.if-window-moved.false)) c.in_ok-put_over.ensures.put c.settle_values-end.result c.settle_values-end.ensures.end in
    omega (arith, fit, c.put_over.new.pool.ok.0, c.put_over.new.pool.ok.1, c.put_over.new.pool.small)

pub returns-clause-globals : goal.returns-clause-globals
returns-clause-globals c =
    globals_renewed c.args.window c.args.next c.args.pool.now.items c.args.moved.now c.args.globals.now c.args.own.now c.requires.gathered
    c.put_over.new.pool.items (omega (arith, c.if-window-moved.false)) c.in_ok-put_over.ensures.put c.settle_values-end.new.values
    c.settle_values-end.ensures.settled

pub returns-clause-own : goal.returns-clause-own
returns-clause-own c =
    own_renewed c.args.window c.args.next c.args.pool.now.items c.args.moved.now c.args.globals.now c.args.own.now c.requires.gathered
    c.put_over.new.pool.items (omega (arith, c.if-window-moved.false)) c.in_ok-put_over.ensures.put c.settle_values-end.result c.settle_packed.new.values
    c.settle_values-end.ensures.end c.settle_packed.ensures.settled

pub returns-clause-parted : goal.returns-clause-parted
returns-clause-parted c =
    has_moved c.args.window c.args.next c.args.pool.now.items c.args.moved.now c.args.globals.now c.args.own.now c.requires.gathered
    c.put_over.new.pool.items (omega (arith, c.if-window-moved.false)) c.in_ok-put_over.ensures.put c.settle_values-end.result
    c.settle_values-end.new.values c.settle_packed.new.values c.settle_values-end.ensures.end c.settle_values-end.ensures.settled
    c.settle_packed.ensures.settled
