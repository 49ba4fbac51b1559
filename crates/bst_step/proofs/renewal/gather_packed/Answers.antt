-- One value more is gone through, and those behind it that end before the place are passed over.
use Rattle.std.proofs.Common.{◌∙◌, ◌+◌, ◌++◌, List, ℕ, ap, arith, pos, sym}
use Rattle.std.proofs.lemmas.Option.{slice_get-get_or}
use Rattle.bst_step.specs.declared.held.Held.TheVariants.{Int}
use Rattle.bst_step.proofs.PackedSteps.{one_gathered, one_passed}
use Rattle.bst_step.proofs.PassedSteps.{passed_bytes, passed_first}
use Rattle.bst_step.proofs.renewal.gather_packed.Goals as goal

pub loop-at-init : goal.loop-at-init
loop-at-init c =
    let passed = c.next_behind-at.ensures.passed in
    record {
      within = c.next_behind-at.ensures.within;
      moved =
          ap (λ (l : List ℕ). c.args.moved.now.items ++ l)
          (passed_bytes c.args.front 0 c.next_behind-at.result c.args.values.now c.next_behind-at.ensures.least passed c.args.window c.args.pool.now c.requires.0);
      next =
          passed_first c.args.front 0 c.next_behind-at.result c.args.values.now c.next_behind-at.ensures.least passed c.args.window.until c.args.other
          (omega (arith, c.requires.0, c.requires.1));
    }

pub unreachable-requires : goal.unreachable-requires
unreachable-requires c =
    c.in_default.not-Some _
    (c.get.ensures ∙ slice_get-get_or c.args.values.now c.loop-at.at (Int (pos 0)) (omega (arith, c.loop-at-test.true, c.len.ensures)))

pub loop-at-preserved : goal.loop-at-preserved
loop-at-preserved c =
    let next = c.next_behind-at-in-loop-at.result in
    let least = c.next_behind-at-in-loop-at.ensures.least in
    let passed = c.next_behind-at-in-loop-at.ensures.passed in
    record {
      within = c.next_behind-at-in-loop-at.ensures.within;
      moved =
          ap (λ (l : List ℕ). c.gather.new.moved.items ++ l)
          (passed_bytes c.args.front (c.loop-at.at + 1) next c.args.values.now least passed c.args.window c.args.pool.now c.requires.0)
          ∙ one_gathered c.args.window c.args.pool.now c.args.values.now c.loop-at.at c.in-Some.value c.loop-at.moved.items c.gather.new.moved.items _
          (sym c.in-Some.ensures) c.loop-at.invariant.moved c.in_ok-gather.ensures;
      next =
          passed_first c.args.front (c.loop-at.at + 1) next c.args.values.now least passed c.args.window.until c.next_behind-next.result
          (omega (arith, c.requires.0, c.requires.1))
          ∙ one_passed c.args.window.until c.args.values.now c.loop-at.at c.in-Some.value c.loop-at.next c.next_behind-next.result _
          (sym c.in-Some.ensures) c.loop-at.invariant.next c.next_behind-next.ensures;
    }
