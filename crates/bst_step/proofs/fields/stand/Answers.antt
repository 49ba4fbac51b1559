-- One name more stands at its place, and in the end all do.
use Rattle.std.proofs.Common.{refl, length, arith}
use Rattle.std.proofs.lemmas.Option.{slice_get_read}
use Rattle.bst_step.proofs.FieldSteps.{all_below, one_more_read}
use Rattle.bst_step.proofs.fields.stand.Goals as goal

pub loop-at-preserved : goal.loop-at-preserved
loop-at-preserved c =
    one_more_read c.args.places.now c.args.names.now c.loop-at.at c.in-Some.place.now _ c.loop-at.invariant c.loop-at-test.true
    (slice_get_read c.args.places.now (length c.args.places.now) _ c.in-Some.place.now refl c.in-Some.ensures.lookup.3.0 c.in-Some.ensures.lookup.1)
    c.if-place-at.false

pub returns : goal.returns
returns c = λ holds. all_below c.args.places.now c.args.names.now c.loop-at.at (omega (arith, c.loop-at-test.false)) c.loop-at.invariant
