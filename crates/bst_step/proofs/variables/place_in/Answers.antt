-- The table has a place for the name or none, and there the name stands, another or none.
use Rattle.std.proofs.Common.{refl, length}
use Rattle.std.proofs.lemmas.Option.{slice_get_past, slice_get_read}
use Rattle.bst_step.proofs.VariableSteps.{another_stands, none_stands, placeless, stands_there}
use Rattle.bst_step.proofs.variables.place_in.Goals as goal

pub returns-in_default-clause-place : goal.returns-in_default-clause-place
returns-in_default-clause-place c =
    placeless c.args.places.now c.args.names.now c.args.name c.requires
    (slice_get_past c.args.places.now c.args.name.0 c.in_default.ensures.lookup.3)

pub returns-in_default-get-clause-place : goal.returns-in_default-get-clause-place
returns-in_default-get-clause-place c =
    none_stands c.args.places.now c.args.names.now c.args.name c.in-Some.at.now c.requires
    (slice_get_read c.args.places.now (length c.args.places.now) c.args.name.0 c.in-Some.at.now refl c.in-Some.ensures.lookup.3.0 c.in-Some.ensures.lookup.1)
    (slice_get_past c.args.names.now c.in-Some.at.now c.in_default-get.ensures.lookup.3)

pub returns-then-found-name-clause-place : goal.returns-then-found-name-clause-place
returns-then-found-name-clause-place c =
    stands_there c.args.places.now c.args.names.now c.args.name c.in-Some.at.now c.in-Some-get.found.now c.requires
    (slice_get_read c.args.names.now (length c.args.names.now) c.in-Some.at.now c.in-Some-get.found.now refl c.in-Some-get.ensures.lookup.3.0
    c.in-Some-get.ensures.lookup.1) c.if-found-name.true

pub returns-else-found-name-clause-place : goal.returns-else-found-name-clause-place
returns-else-found-name-clause-place c =
    another_stands c.args.places.now c.args.names.now c.args.name c.in-Some.at.now c.in-Some-get.found.now c.requires
    (slice_get_read c.args.places.now (length c.args.places.now) c.args.name.0 c.in-Some.at.now refl c.in-Some.ensures.lookup.3.0 c.in-Some.ensures.lookup.1)
    (slice_get_read c.args.names.now (length c.args.names.now) c.in-Some.at.now c.in-Some-get.found.now refl c.in-Some-get.ensures.lookup.3.0
    c.in-Some-get.ensures.lookup.1) c.if-found-name.false
