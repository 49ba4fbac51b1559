use Rattle.std.proofs.Common.{◌≡◌, arith, false, sym, ◌∙◌, get_or}
use Rattle.bv_base.specs.Levels.{is_closing}
use Rattle.text_ops.proofs.LevelSteps.{level_after_take, special_take}
use Rattle.text_ops.proofs.levels.split_special.Goals as goal

pub loop-at-preserved : goal.loop-at-preserved
loop-at-preserved c =
    let within : is_closing c.loop-at.level (get_or c.args.text.now c.loop-at.at 0) ≡ false = sym c.is_closing-last.ensures ∙ c.if-last.false in
    record {
      body = c.loop-at.invariant.body ∙ rw c.next_level-level.ensures.next (special_take c.loop-at.level c.args.text.now c.loop-at.at c.loop-at-test.true within);
      level = cc (level_after_take 1 c.args.text.now c.loop-at.at c.loop-at-test.true);
      bound = omega (arith, c.next_level-level.ensures.bound);
    }
