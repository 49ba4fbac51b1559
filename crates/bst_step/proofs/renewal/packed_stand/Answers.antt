-- One value more stands on one side of the place, and those behind it that end before the place do.
use Rattle.std.proofs.Common.{◌∙◌, ◌+◌, arith, pos, sym}
use Rattle.std.proofs.lemmas.Option.{slice_get-get_or}
use Rattle.bst_step.specs.declared.held.Held.TheVariants.{Int}
use Rattle.bst_step.proofs.PassedSteps.{one_stands, passed_stand}
use Rattle.bst_step.proofs.renewal.packed_stand.Goals as goal

pub loop-at-init : goal.loop-at-init
loop-at-init c = record {
  within = c.next_behind-at.ensures.within;
  stand = passed_stand c.args.place 0 c.next_behind-at.result c.args.values.now c.next_behind-at.ensures.least c.next_behind-at.ensures.passed tt;
}

pub unreachable-requires : goal.unreachable-requires
unreachable-requires c =
    c.in_default.not-Some _
    (c.get.ensures ∙ slice_get-get_or c.args.values.now c.loop-at.at (Int (pos 0)) (omega (arith, c.loop-at-test.true, c.len.ensures)))

pub loop-at-preserved : goal.loop-at-preserved
loop-at-preserved c = record {
  within = c.next_behind-at-in-loop-at.ensures.within;
  stand =
      passed_stand c.args.place (c.loop-at.at + 1) c.next_behind-at-in-loop-at.result c.args.values.now c.next_behind-at-in-loop-at.ensures.least
      c.next_behind-at-in-loop-at.ensures.passed
      (one_stands c.args.place c.args.values.now c.loop-at.at c.in-Some.value (sym c.in-Some.ensures) c.loop-at.invariant.stand c.if-not-stands.ensures);
}
