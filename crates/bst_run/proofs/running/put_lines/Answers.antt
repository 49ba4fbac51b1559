-- What is put of a run, where a part of it fails and where all are put.
use Rattle.std.proofs.Common.{◌≡◌, ◌+◌, ◌-◌, arith, refl, sym}
use Rattle.std.proofs.lemmas.Result.{err_from_is_err_and}
use Rattle.bv_base.specs.declared.sink.PutAnswer.TheVariants.{Failed, NoMemory}
use Rattle.bst_step.specs.Lines.{page_in}
use Rattle.bst_step.specs.Machine.{configuration, style_of}
use Rattle.bst_run.specs.Delivery.{IsCut, IsHeld, sunk}
use Rattle.bst_run.proofs.PutLemmas.{comes_as, cut_whole, held_whole, last_part, put_whole, refused_as, so_far_as}
use Rattle.bst_run.proofs.running.put_lines.Goals as goal

-- a part that isn't the last
pub returns-in_err-so_far-clause-failed : goal.returns-in_err-so_far-clause-failed
returns-in_err-so_far-clause-failed g c =
    let p = err_from_is_err_and c.from_residual.result c.from_residual.ensures.1 in
    let inv = c.loop-part.invariant in
    let all : c.args.count - c.loop-part.left + c.loop-part.part + (c.loop-part.left - c.loop-part.part) ≡ c.args.count = omega (arith, inv.0, c.loop-part-test.true) in
    rw (p.1, p.2)
    (λ is.
    comes_as IsCut (style_of c.loop-part.machine) (style_of c.args.machine.now) _ c.args.count (configuration c.args.machine.now)
    (sunk g.O.Sink c.args.out.now c.put_part.new.out) inv.1 all
    (c.in_err-so_far.ensures.failed (refused_as c.in_err-so_far.field-0.0 Failed is)
    (c.args.count - c.loop-part.left) (c.loop-part.left - c.loop-part.part) (configuration c.args.machine.now) c.args.out.now
    (so_far_as (style_of c.args.machine.now) (style_of c.loop-part.machine) _ _ _ _ _ _ (sym inv.1) refl inv.2)))

pub returns-in_err-so_far-clause-wanting : goal.returns-in_err-so_far-clause-wanting
returns-in_err-so_far-clause-wanting g c =
    let p = err_from_is_err_and c.from_residual.result c.from_residual.ensures.1 in
    let inv = c.loop-part.invariant in
    let all : c.args.count - c.loop-part.left + c.loop-part.part + (c.loop-part.left - c.loop-part.part) ≡ c.args.count = omega (arith, inv.0, c.loop-part-test.true) in
    rw (p.1, p.2)
    (λ is.
    comes_as IsHeld (style_of c.loop-part.machine) (style_of c.args.machine.now) _ c.args.count (configuration c.args.machine.now)
    (sunk g.O.Sink c.args.out.now c.put_part.new.out) inv.1 all
    (c.in_err-so_far.ensures.wanting (refused_as c.in_err-so_far.field-0.0 NoMemory is)
    (c.args.count - c.loop-part.left) (c.loop-part.left - c.loop-part.part) (configuration c.args.machine.now) c.args.out.now
    (so_far_as (style_of c.args.machine.now) (style_of c.loop-part.machine) _ _ _ _ _ _ (sym inv.1) refl inv.2)))

-- the last part
pub returns-in_err-turn-clause-failed : goal.returns-in_err-turn-clause-failed
returns-in_err-turn-clause-failed g c =
    let p = err_from_is_err_and c.from_residual-in_err-turn.result c.from_residual-in_err-turn.ensures.1 in
    let inv = c.loop-part.invariant in
    let all : c.args.count - c.loop-part.left + c.loop-part.left + 0 ≡ c.args.count = omega (arith, inv.0, c.loop-part-test.false) in
    rw (p.1, p.2)
    (λ is.
    comes_as IsCut (style_of c.loop-part.machine) (style_of c.args.machine.now) _ c.args.count (configuration c.args.machine.now)
    (sunk g.O.Sink c.args.out.now c.put_part-2.new.out) inv.1 all
    (c.in_err-turn.ensures.failed (refused_as c.in_err-turn.field-0.0 Failed is)
    (c.args.count - c.loop-part.left) (0) (configuration c.args.machine.now) c.args.out.now
    (so_far_as (style_of c.args.machine.now) (style_of c.loop-part.machine) _ _ _ _ _ _ (sym inv.1) refl inv.2)))

pub returns-in_err-turn-clause-wanting : goal.returns-in_err-turn-clause-wanting
returns-in_err-turn-clause-wanting g c =
    let p = err_from_is_err_and c.from_residual-in_err-turn.result c.from_residual-in_err-turn.ensures.1 in
    let inv = c.loop-part.invariant in
    let all : c.args.count - c.loop-part.left + c.loop-part.left + 0 ≡ c.args.count = omega (arith, inv.0, c.loop-part-test.false) in
    rw (p.1, p.2)
    (λ is.
    comes_as IsHeld (style_of c.loop-part.machine) (style_of c.args.machine.now) _ c.args.count (configuration c.args.machine.now)
    (sunk g.O.Sink c.args.out.now c.put_part-2.new.out) inv.1 all
    (c.in_err-turn.ensures.wanting (refused_as c.in_err-turn.field-0.0 NoMemory is)
    (c.args.count - c.loop-part.left) (0) (configuration c.args.machine.now) c.args.out.now
    (so_far_as (style_of c.args.machine.now) (style_of c.loop-part.machine) _ _ _ _ _ _ (sym inv.1) refl inv.2)))

-- what was left on the page
pub returns-in_err-put_rest-clause-failed : goal.returns-in_err-put_rest-clause-failed
returns-in_err-put_rest-clause-failed g c =
    let p = err_from_is_err_and c.from_residual-in_err-put_rest.result c.from_residual-in_err-put_rest.ensures.1 in
    let inv = c.loop-part.invariant in
    rw (p.1, p.2)
    (λ is.
    cut_whole (style_of c.args.machine.now) c.args.count (configuration c.args.machine.now) (configuration c.put_part-2.new.machine)
    (page_in c.put_part-2.new.page)
    (g.O.Sink.written c.args.out.now) (g.O.Sink.written c.put_part-2.new.out) (g.O.Sink.written c.put_rest.new.out)
    (g.O.Sink.faults c.args.out.now) (g.O.Sink.faults c.put_part-2.new.out) (g.O.Sink.faults c.put_rest.new.out)
    (last_part (style_of c.loop-part.machine) (style_of c.args.machine.now) c.args.count c.loop-part.left _ _ _ _ _ _ _ (inv.0, inv.1, inv.2)
    (c.in_ok-turn.ensures.further (c.args.count - c.loop-part.left) (configuration c.args.machine.now) c.args.out.now))
    (c.in_err-put_rest.ensures.failed (refused_as c.in_err-put_rest.field-0.0 Failed is)))

pub returns-in_err-put_rest-clause-wanting : goal.returns-in_err-put_rest-clause-wanting
returns-in_err-put_rest-clause-wanting g c =
    let p = err_from_is_err_and c.from_residual-in_err-put_rest.result c.from_residual-in_err-put_rest.ensures.1 in
    let inv = c.loop-part.invariant in
    rw (p.1, p.2)
    (λ is.
    held_whole (style_of c.args.machine.now) c.args.count (configuration c.args.machine.now) (configuration c.put_part-2.new.machine)
    (page_in c.put_part-2.new.page)
    (g.O.Sink.written c.args.out.now) (g.O.Sink.written c.put_part-2.new.out) (g.O.Sink.written c.put_rest.new.out)
    (g.O.Sink.faults c.args.out.now) (g.O.Sink.faults c.put_part-2.new.out) (g.O.Sink.faults c.put_rest.new.out)
    (last_part (style_of c.loop-part.machine) (style_of c.args.machine.now) c.args.count c.loop-part.left _ _ _ _ _ _ _ (inv.0, inv.1, inv.2)
    (c.in_ok-turn.ensures.further (c.args.count - c.loop-part.left) (configuration c.args.machine.now) c.args.out.now))
    (c.in_err-put_rest.ensures.wanting (refused_as c.in_err-put_rest.field-0.0 NoMemory is)))

-- all was put
pub returns-clause-moved : goal.returns-clause-moved
returns-clause-moved g c =
    let inv = c.loop-part.invariant in
    (last_part (style_of c.loop-part.machine) (style_of c.args.machine.now) c.args.count c.loop-part.left _ _ _ _ _ _ _ (inv.0, inv.1, inv.2)
    (c.in_ok-turn.ensures.further (c.args.count - c.loop-part.left) (configuration c.args.machine.now) c.args.out.now)).stands

pub returns-clause-done : goal.returns-clause-done
returns-clause-done g c =
    let inv = c.loop-part.invariant in
    put_whole (style_of c.args.machine.now) c.args.count (configuration c.args.machine.now) (configuration c.put_part-2.new.machine)
    (page_in c.put_part-2.new.page)
    (g.O.Sink.written c.args.out.now) (g.O.Sink.written c.put_part-2.new.out) (g.O.Sink.written c.put_rest.new.out)
    (g.O.Sink.faults c.args.out.now) (g.O.Sink.faults c.put_part-2.new.out) (g.O.Sink.faults c.put_rest.new.out)
    (last_part (style_of c.loop-part.machine) (style_of c.args.machine.now) c.args.count c.loop-part.left _ _ _ _ _ _ _ (inv.0, inv.1, inv.2)
    (c.in_ok-turn.ensures.further (c.args.count - c.loop-part.left) (configuration c.args.machine.now) c.args.out.now))
    c.in_ok-put_rest.ensures.done
