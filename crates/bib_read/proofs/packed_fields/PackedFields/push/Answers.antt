-- A field that is put behind the others leaves them.
use Rattle.std.proofs.Common.{◌≡◌, ◌∙◌, arith, subst, Some, ℕ, slice_get}
use Rattle.bib_read.proofs.PackedFields.{field_after, fields_after, kept, names_grown, numbered_after, numbered_grown}
use Rattle.bib_read.proofs.packed_fields.PackedFields.push.Goals as goal

pub invariant_of-self : goal.invariant_of-self
invariant_of-self c =
    numbered_grown c.self.inside.names c.place_or_add.new.self c.self.inside.numbers.items c.self.inside.values
    c.place_or_add.ensures.grown c.self.invariant

pub returns-in_err-place-clause-err : goal.returns-in_err-place-clause-err
returns-in_err-place-clause-err c =
    kept c.from_residual.result
    (names_grown c.self.inside.names c.place_or_add.new.self c.self.inside.numbers.items c.self.inside.values
    c.place_or_add.ensures.grown c.self.invariant
    ∙ c.self.view_is)

pub invariant_of-self-in_default : goal.invariant_of-self-in_default
invariant_of-self-in_default c =
    numbered_grown c.self.inside.names c.place_or_add.new.self c.self.inside.numbers.items c.self.inside.values
    c.place_or_add.ensures.grown c.self.invariant

pub returns-in_default-clause-err : goal.returns-in_default-clause-err
returns-in_default-clause-err c =
    names_grown c.self.inside.names c.place_or_add.new.self c.self.inside.numbers.items c.self.inside.values
    c.place_or_add.ensures.grown c.self.invariant
    ∙ c.self.view_is

pub invariant_of-self-2 : goal.invariant_of-self-2
invariant_of-self-2 c =
    let same : c.in_ok-place.place ≡ c.in-Ok.number = omega (arith, c.in-Ok.ensures) in
    numbered_after c.self.inside.names c.place_or_add.new.self c.self.inside.numbers.items c.push_numbered.new.numbers.items
    c.self.inside.values c.push_numbered.new.values c.in-Ok.number c.args.name.now c.args.value.now c.push_numbered.result
    c.place_or_add.ensures.grown
    (subst (λ (n : ℕ). slice_get c.place_or_add.new.self n ≡ Some c.args.name.now) same c.in_ok-place.ensures.placed)
    c.self.invariant c.push_numbered.ensures.numbers c.push_numbered.ensures.values c.push_numbered.ensures.same_numbers
    c.push_numbered.ensures.same_values

pub returns-clause-ok : goal.returns-clause-ok
returns-clause-ok c =
    let same : c.in_ok-place.place ≡ c.in-Ok.number = omega (arith, c.in-Ok.ensures) in
    field_after c.self.inside.names c.place_or_add.new.self c.self.inside.numbers.items c.push_numbered.new.numbers.items
    c.self.inside.values c.push_numbered.new.values c.in-Ok.number c.args.name.now c.args.value.now c.push_numbered.result
    c.args.self.now c.place_or_add.ensures.grown
    (subst (λ (n : ℕ). slice_get c.place_or_add.new.self n ≡ Some c.args.name.now) same c.in_ok-place.ensures.placed)
    c.self.invariant c.push_numbered.ensures.numbers c.push_numbered.ensures.values c.self.view_is

pub returns-clause-err : goal.returns-clause-err
returns-clause-err c =
    fields_after c.self.inside.names c.place_or_add.new.self c.self.inside.numbers.items c.push_numbered.new.numbers.items
    c.self.inside.values c.push_numbered.new.values c.push_numbered.result c.args.self.now c.place_or_add.ensures.grown
    c.self.invariant c.push_numbered.ensures.same_numbers c.push_numbered.ensures.same_values c.self.view_is
