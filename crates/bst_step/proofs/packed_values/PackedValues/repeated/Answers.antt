-- The same values once more, and in the end so many times.
use Rattle.std.proofs.Common.{◌∙◌, ◌++◌, List, ℕ, ap, arith}
use Rattle.bst_step.specs.declared.packed_values.Packed.{Packed}
use Rattle.bst_step.specs.EntryStates.{repeated}
use Rattle.bst_step.proofs.OpenedSteps.{values_added}
use Rattle.bst_step.proofs.PackedSteps.{packed_repeated, repeated_packed}
use Rattle.bst_step.proofs.packed_values.PackedValues.repeated.Goals as goal

pub loop-time-preserved : goal.loop-time-preserved
loop-time-preserved c =
    values_added c.in_ok-each.each.items c.loop-time.packed.items c.extend_from_slice.new.self.items c.loop-time.time
    (c.in_ok-extend_from_slice.ensures.items ∙ ap (λ (l : List Packed). c.loop-time.packed.items ++ l) c.as_slice.ensures.value) c.loop-time.invariant

pub invariant_of-result : goal.invariant_of-result
invariant_of-result c =
    repeated_packed c.loop-time.packed.items c.in_ok-each.each.items c.packed_each.new.others.items c.in_ok-wide.wide.items c.loop-time.time _
    c.in_ok-wide.ensures.items c.loop-time.invariant c.in_ok-each.ensures.among
    (omega (arith, c.len.ensures, c.in_ok-wide.ensures.exact, c.loop-time.packed.ok.0))

pub returns : goal.returns
returns c =
    packed_repeated c.loop-time.packed.items c.in_ok-each.each.items c.packed_each.new.others.items c.in_ok-wide.wide.items c.args.values.now
    c.args.times c.in_ok-wide.ensures.items
    (c.loop-time.invariant ∙ ap (λ (k : ℕ). repeated k c.in_ok-each.each.items) (omega (arith, c.loop-time-test.false, c.loop-time.auto.time-end)))
    c.in_ok-each.ensures.values
