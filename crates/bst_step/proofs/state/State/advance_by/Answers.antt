-- The steps that are left change nothing, the entries have their positions after each step, and of the room a step takes one at most.
use Rattle.std.proofs.Common.{◌≡◌, ◌∙◌, arith, false, refl, suc, sym, true}
use Rattle.bst_step.specs.State.{config_of}
use Rattle.bst_step.proofs.PlaceSteps.{marks_some_less, places_after, some_less}
use Rattle.bst_step.proofs.RestSteps.{marks_rest, steps_rest}
use Rattle.bst_step.proofs.RoomSteps.{first_takes, later_take}
use Rattle.bst_step.proofs.state.State.advance_by.Goals as goal

pub returns-then-is_at_rest : goal.returns-then-is_at_rest
returns-then-is_at_rest c = record {
  moved =
      sym (steps_rest c.args.style.now c.loop-left.left (config_of c.loop-left.self) (sym c.is_at_rest.ensures ∙ c.if-is_at_rest.true))
      ∙ c.loop-left.invariant.steps;
  places = c.loop-left.invariant.places;
  marks =
      sym (marks_rest c.args.style.now c.loop-left.left (config_of c.loop-left.self) c.loop-left.self.values.marks
      (sym c.is_at_rest.ensures ∙ c.if-is_at_rest.true))
      ∙ c.loop-left.invariant.marks;
  fits = λ takes frames values. refl;
  room = (omega (arith, c.loop-left.invariant.frames), omega (arith, c.loop-left.invariant.values));
}

pub returns-in_err-more-clause-fits : goal.returns-in_err-more-clause-fits
returns-in_err-more-clause-fits c = λ takes frames values.
    let fits : false ≡ true =
    c.in_err-more.ensures.fits
    (first_takes c.args.style.now c.loop-left.left (config_of c.loop-left.self) c.loop-left-test.true (c.loop-left.invariant.takes takes))
    (omega (arith, frames, c.loop-left.invariant.frames, c.loop-left-test.true), omega (arith, values, c.loop-left.invariant.values, c.loop-left-test.true)) in
    absurd (cc)

pub loop-left-preserved : goal.loop-left-preserved
loop-left-preserved c = record {
  steps =
      some_less c.args.style.now c.in_ok-more.more c.loop-left.left (config_of c.loop-left.self) (config_of c.advance.new.self)
      (c.in_ok-more.ensures.few c.loop-left-test.true) c.in_ok-more.ensures.moved
      ∙ c.loop-left.invariant.steps;
  places =
      places_after c.args.style.now (suc c.in_ok-more.more) (config_of c.args.self.now) (config_of c.loop-left.self) (config_of c.advance.new.self)
      c.in_ok-more.ensures.moved c.loop-left.invariant.places;
  marks =
      marks_some_less c.args.style.now c.in_ok-more.more c.loop-left.left (config_of c.loop-left.self) (config_of c.advance.new.self)
      c.loop-left.self.values.marks c.advance.new.self.values.marks (c.in_ok-more.ensures.few c.loop-left-test.true) c.in_ok-more.ensures.moved
      c.in_ok-more.ensures.marks
      ∙ c.loop-left.invariant.marks;
  within = omega (arith, c.loop-left.invariant.within);
  frames = omega (arith, c.loop-left.invariant.frames, c.in_ok-more.ensures.few c.loop-left-test.true, c.in_ok-more.ensures.room.0);
  values = omega (arith, c.loop-left.invariant.values, c.in_ok-more.ensures.few c.loop-left-test.true, c.in_ok-more.ensures.room.1);
  takes = λ all.
      later_take c.args.style.now c.in_ok-more.more c.loop-left.left (config_of c.loop-left.self) (config_of c.advance.new.self)
      (c.in_ok-more.ensures.few c.loop-left-test.true) c.in_ok-more.ensures.moved (c.loop-left.invariant.takes all);
}
