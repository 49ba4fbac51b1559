use Rattle.std.proofs.Common.{◌≡◌, ◌∙◌, ◌<◌, ◌++◌, arith, ap, length, get_or, rules}
use Rattle.std.specs.List.{flat_map}
use Rattle.bv_base.specs.Levels.{inside, special_parts}
use Rattle.text_ops.specs.Purify.{purified_part}
use Rattle.text_ops.proofs.PieceSteps.{put_bytes}
use Rattle.text_ops.proofs.PartSteps.{word_part, word_beyond, word_bound}
use Rattle.text_ops.proofs.purify.purify_special.Goals as goal

-- a control word
pub loop-rest-preserved-then-first-eq92 : goal.loop-rest-preserved-then-first-eq92
loop-rest-preserved-then-first-eq92 c =
    let some : 0 < length c.loop-rest.rest.now = omega arith in
    let mark : get_or c.loop-rest.rest.now 0 0 ≡ 92 = c.if-first-eq92.true in
    let put : c.extend_from_slice.new.self.items ≡ c.loop-rest.out.items ++ c.purified_word.result.now = search rules in
    let step : flat_map purified_part (special_parts (inside c.loop-rest.level c.loop-rest.rest.now)) ≡ c.purified_word.result.now ++ flat_map purified_part (special_parts (inside c.loop-rest.level c.split_word-word.result.later.now))
    = rw (c.split_word-word.ensures.later, c.purified_word.ensures, c.split_word-word.ensures.letters) (ap (flat_map purified_part) (word_part c.loop-rest.level c.loop-rest.rest.now some mark)) in
    record {
      items = put_bytes _ _ _ _ _ _ put c.loop-rest.invariant.items step;
      later = rw c.split_word-word.ensures.later (word_beyond c.loop-rest.level c.loop-rest.rest.now some mark ∙ c.loop-rest.invariant.later);
      bound = rw c.split_word-word.ensures.later (omega (arith, word_bound c.loop-rest.rest.now some));
    }
