-- A step that marks nothing more is the last, and any other leaves one less.
use Rattle.std.proofs.Common.{◌≡◌, ◌<◌, rules, length, ap, arith, List, subst}
use Rattle.name_table.specs.declared.style.Body.{Body}
use Rattle.loop_templates.proofs.Steps.{step_in_vain, step_taken}
use Rattle.loop_templates.proofs.reaching.further.Goals as goal

pub returns-then-same_marks : goal.returns-then-same_marks
returns-then-same_marks c =
    let same : c.loop.marks.items ≡ c.mark_further.new.marks.items = search rules in
    let more : c.loop.counter < length c.args.style.now.bodies =
    subst (λ (bodies : List Body). c.loop.counter < length bodies) c.as_slice-end.ensures c.loop-test.true in
    step_in_vain c.args.style.now c.args.types.now c.loop.counter (length c.args.style.now.bodies) c.loop.marks.items
    c.mark_further.new.marks.items _ c.loop.invariant c.mark_further.ensures same more

pub loop-preserved : goal.loop-preserved
loop-preserved c =
    step_taken c.args.style.now c.args.types.now c.loop.counter (length c.args.style.now.bodies) c.loop.marks.items
    c.mark_further.new.marks.items _ c.loop.invariant c.mark_further.ensures

pub returns : goal.returns
returns c =
    let all = ap (λ (bodies : List Body). length bodies) c.as_slice-end.ensures in
    c.loop.invariant 0 (omega (arith, all, c.loop-test.false, c.loop.auto.counter-end))
