-- A value that is packed takes the place of another, or all stand as they are from then on.
use Rattle.std.proofs.Common.{◌∙◌, List, ap, arith, eqb-true, length, map, sym}
use Rattle.std.proofs.Math.ListN.{set}
use Rattle.std.proofs.lemmas.List.{nil_from_length}
use Rattle.bst_step.specs.declared.held.Held.{Held}
use Rattle.bst_step.specs.declared.packed_values.Packed.{Packed}
use Rattle.bst_step.specs.PackedValues.{unpacked}
use Rattle.bst_step.proofs.PackedSteps.{set_packed, set_widened, still_packed, still_widened}
use Rattle.bst_step.proofs.packed_values.PackedValues.set.Goals as goal

pub invariant_of-self-in-Some : goal.invariant_of-self-in-Some
invariant_of-self-in-Some c =
    still_packed c.self.inside.packed.items c.self.inside.others.items c.packed_beside.new.others.items c.self.inside.wide.items _ c.args.at
    c.in-Some.ensures.grown c.self.invariant
    (nil_from_length c.self.inside.wide.items (omega (arith, c.self.inside.wide.ok.0, eqb-true _ _ (sym c.if-not-is_empty.ensures))))
    c.in-Some.packed c.in-Some.ensures.among

pub invariant_of-self-in-None : goal.invariant_of-self-in-None
invariant_of-self-in-None c =
    still_widened c.self.inside.packed.items c.self.inside.others.items c.packed_beside.new.others.items c.self.inside.wide.items
    c.widen.new.wide.items _ c.args.at c.args.value c.in-None.ensures.grown c.self.invariant
    (nil_from_length c.self.inside.wide.items (omega (arith, c.self.inside.wide.ok.0, eqb-true _ _ (sym c.if-not-is_empty.ensures))))
    (omega (arith, c.requires, ap (λ (l : List Held). length l) c.self.view_is))
    (c.widen.ensures.wide
    ∙ ap (λ (l : List Held). map (unpacked l) c.as_slice.result.now) c.as_slice-in-None.ensures.value
    ∙ ap (λ (l : List Packed). map (unpacked c.packed_beside.new.others.items) l) c.as_slice.ensures.value) _ c.widen.ensures.room

pub returns-in-Some : goal.returns-in-Some
returns-in-Some c =
    set_packed c.self.inside.packed.items c.self.inside.others.items c.packed_beside.new.others.items c.self.inside.wide.items _ c.args.at
    c.in-Some.ensures.grown c.self.invariant
    (nil_from_length c.self.inside.wide.items (omega (arith, c.self.inside.wide.ok.0, eqb-true _ _ (sym c.if-not-is_empty.ensures))))
    c.in-Some.packed c.args.value c.in-Some.ensures.value
    ∙ ap (λ (l : List Held). set l c.args.at c.args.value) c.self.view_is

pub returns-in-None : goal.returns-in-None
returns-in-None c =
    set_widened c.self.inside.packed.items c.self.inside.others.items c.packed_beside.new.others.items c.self.inside.wide.items
    c.widen.new.wide.items _ c.args.at c.args.value c.in-None.ensures.grown c.self.invariant
    (nil_from_length c.self.inside.wide.items (omega (arith, c.self.inside.wide.ok.0, eqb-true _ _ (sym c.if-not-is_empty.ensures))))
    (omega (arith, c.requires, ap (λ (l : List Held). length l) c.self.view_is))
    (c.widen.ensures.wide
    ∙ ap (λ (l : List Held). map (unpacked l) c.as_slice.result.now) c.as_slice-in-None.ensures.value
    ∙ ap (λ (l : List Packed). map (unpacked c.packed_beside.new.others.items) l) c.as_slice.ensures.value)
    ∙ ap (λ (l : List Held). set l c.args.at c.args.value) c.self.view_is
