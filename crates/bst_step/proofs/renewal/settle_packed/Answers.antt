-- One value more is settled, and those behind it that end before the place are passed over.
use Rattle.std.proofs.Common.{◌∙◌, ◌+◌, ◌<◌, ap, arith, length, pos, refl, ℕ}
use Rattle.bst_step.specs.declared.held.Held.TheVariants.{Int}
use Rattle.bst_step.proofs.PassedSteps.{as_many, counted_further, passed_count, passed_settled, settled_further}
use Rattle.bst_step.proofs.renewal.settle_packed.Goals as goal

pub loop-at-init : goal.loop-at-init
loop-at-init c =
    let least = c.next_behind-at.ensures.least in
    let passed = c.next_behind-at.ensures.passed in
    record {
      within = c.next_behind-at.ensures.within;
      settled = passed_settled c.args.front 0 c.next_behind-at.result c.args.values.now least passed c.args.window c.args.to c.requires.behind.0;
      end =
          ap (λ (n : ℕ). c.args.to + n)
          (passed_count c.args.front 0 c.next_behind-at.result c.args.values.now least passed c.args.window c.requires.behind.0);
      many = refl;
    }

pub loop-at-preserved : goal.loop-at-preserved
loop-at-preserved c =
    let later = c.settle_at-end.new.values in
    let next = c.next_behind-at-in-loop-at.result in
    let least = c.next_behind-at-in-loop-at.ensures.least in
    let passed = c.next_behind-at-in-loop-at.ensures.passed in
    let there : c.loop-at.at < length c.loop-at.values = omega (arith, c.loop-at-test.true, c.len.ensures) in
    record {
      within = c.next_behind-at-in-loop-at.ensures.within;
      settled =
          passed_settled c.args.front (c.loop-at.at + 1) next later least passed c.args.window (c.loop-at.end + c.settle_at-end.result) c.requires.behind.0
          ∙ settled_further c.args.window c.loop-at.values later c.loop-at.at c.loop-at.end c.settle_at-end.result (Int (pos 0)) there
          c.settle_at-end.ensures.settled c.settle_at-end.ensures.count _ c.loop-at.invariant.settled;
      end =
          ap (λ (n : ℕ). c.loop-at.end + c.settle_at-end.result + n)
          (passed_count c.args.front (c.loop-at.at + 1) next later least passed c.args.window c.requires.behind.0)
          ∙ counted_further c.args.window c.loop-at.values later c.loop-at.at c.loop-at.end c.settle_at-end.result (Int (pos 0)) there
          c.settle_at-end.ensures.settled c.settle_at-end.ensures.count _ c.loop-at.invariant.end;
      many =
          as_many c.args.window c.loop-at.values later c.loop-at.at c.loop-at.end c.settle_at-end.result (Int (pos 0)) there
          c.settle_at-end.ensures.settled c.settle_at-end.ensures.count
          ∙ c.loop-at.invariant.many;
    }
