use Rattle.std.proofs.Common.{◌≡◌, ◌∙◌, ◌<◌, ◌++◌, arith, ap, length, get_or, append_assoc}
use Rattle.std.specs.List.{flat_map}
use Rattle.bv_base.specs.Levels.{inside, closing, special_parts}
use Rattle.text_ops.specs.ChangeCase.{changed_part, changed_word}
use Rattle.text_ops.proofs.PieceSteps.{put_bytes}
use Rattle.text_ops.proofs.PartSteps.{word_part, word_beyond, word_closing, word_bound}
use Rattle.text_ops.proofs.change_case.change_special.Goals as goal

-- a control word
pub loop-rest-preserved-then-first-eq92 : goal.loop-rest-preserved-then-first-eq92
loop-rest-preserved-then-first-eq92 c =
    let some : 0 < length c.loop-rest.rest.now = omega arith in
    let mark : get_or c.loop-rest.rest.now 0 0 ≡ 92 = c.if-first-eq92.true in
    let put : c.push_word.new.out.items ≡ c.loop-rest.out.items ++ changed_word c.args.mode c.split_word-word.result.letters.now c.split_word-word.result.space.now = c.in_ok-push_word.ensures in
    let parts : flat_map (changed_part c.args.mode) (special_parts (inside c.loop-rest.level c.loop-rest.rest.now)) ≡ changed_word c.args.mode c.split_word-word.result.letters.now c.split_word-word.result.space.now ++ flat_map (changed_part c.args.mode) (special_parts (inside c.loop-rest.level c.split_word-word.result.later.now))
    = rw (c.split_word-word.ensures.letters, c.split_word-word.ensures.space, c.split_word-word.ensures.later) (ap (flat_map (changed_part c.args.mode)) (word_part c.loop-rest.level c.loop-rest.rest.now some mark)) in
    let close : closing c.loop-rest.level c.split_word-word.result.later.now ≡ closing c.loop-rest.level c.loop-rest.rest.now = rw c.split_word-word.ensures.later (word_closing c.loop-rest.level c.loop-rest.rest.now some mark) in
    let step = ap (λ xs. xs ++ closing c.loop-rest.level c.loop-rest.rest.now) parts ∙ append_assoc (changed_word c.args.mode c.split_word-word.result.letters.now c.split_word-word.result.space.now) (flat_map (changed_part c.args.mode) (special_parts (inside c.loop-rest.level c.split_word-word.result.later.now))) (closing c.loop-rest.level c.loop-rest.rest.now) in
    record {
      items = rw close (put_bytes _ _ _ _ _ _ put c.loop-rest.invariant.items step);
      later = rw c.split_word-word.ensures.later (word_beyond c.loop-rest.level c.loop-rest.rest.now some mark ∙ c.loop-rest.invariant.later);
      bound = rw c.split_word-word.ensures.later (omega (arith, word_bound c.loop-rest.rest.now some));
    }
