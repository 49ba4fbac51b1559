use Rattle.std.proofs.Common.{◌≡◌, ◌∙◌, ◌≤◌, ◌+◌, ◌-◌, ◌++◌, ◌∷◌, [], arith, true, false, sym, length, get_or, rules}
use Rattle.std.specs.List.{flat_map}
use Rattle.bv_base.specs.Levels.{begins_special, pieces_after, spelling, is_brace}
use Rattle.text_ops.specs.TextPrefix.{first_characters}
use Rattle.text_ops.proofs.PieceSteps.{put_special, put_byte, special_level, unclosed_special_bound}
use Rattle.text_ops.proofs.PrefixSteps.{prefix_special, prefix_plain}
use Rattle.text_ops.proofs.LevelSteps.{level_after_append}
use Rattle.text_ops.proofs.text_prefix.prefix.Goals as goal
use Rattle.text_ops.proofs.text_prefix.prefix.Goals.{then-not-is_brace, else-not-is_brace}
use Rattle.std.proofs.lemmas.Bool.Decides.{nat_tests}
use Rattle.std.specs.Prelude.{if◌then◌else◌}

pub loop-left-preserved-then-begins_special : goal.loop-left-preserved-then-begins_special
loop-left-preserved-then-begins_special c =
    let begins : begins_special c.loop-left.level c.loop-left.rest.now ≡ true = sym c.begins_special.ensures ∙ c.if-begins_special.true in
    let put : c.extend_from_slice.new.self.items ≡ (c.loop-left.text.items ++ 123 ∷ []) ++ c.split_special-special.result.body.now = search rules in
    let step : flat_map spelling (first_characters c.loop-left.left (pieces_after 0 c.loop-left.level c.loop-left.rest.now)) ≡ 123 ∷ (c.split_special-special.result.body.now ++ flat_map spelling (first_characters (c.loop-left.left - 1) (pieces_after 0 c.split_special-special.result.unclosed c.split_special-special.result.later.now)))
    = rw (c.split_special-special.ensures.unclosed, c.split_special-special.ensures.body, c.split_special-special.ensures.later) (prefix_special c.loop-left.left c.loop-left.level c.loop-left.rest.now (omega arith) begins) in
    let bound : c.split_special-special.result.unclosed + length c.split_special-special.result.later.now ≤ length c.loop-left.rest.now
    = rw (c.split_special-special.ensures.unclosed, c.split_special-special.ensures.body, c.split_special-special.ensures.later) (unclosed_special_bound c.loop-left.level c.loop-left.rest.now begins) in
    record {
      text = put_special _ _ _ _ _ _ _ put c.loop-left.invariant.text step;
      level = rw (put, level_after_append, level_after_append, ← c.loop-left.invariant.level, special_level c.loop-left.level c.loop-left.rest.now begins) c.split_special-special.ensures.unclosed;
      bound = omega (arith, c.loop-left.invariant.bound, bound);
    }

pub loop-left-preserved : goal.loop-left-preserved
loop-left-preserved c =
    let plain : begins_special c.loop-left.level c.loop-left.rest.now ≡ false = sym c.begins_special.ensures ∙ c.if-begins_special.false in
    let put : c.push-else-begins_special.new.self.items ≡ c.loop-left.text.items ++ get_or c.loop-left.rest.now 0 0 ∷ [] = search rules in
    let left : c.if-not-is_brace.left ≡ (if is_brace (get_or c.loop-left.rest.now 0 0) then c.loop-left.left else c.loop-left.left - 1)
    = elim c.if-not-is_brace.branch [ then-not-is_brace w ↦ grind (arith, nat_tests) | else-not-is_brace w ↦ grind (arith, nat_tests) ] in
    record {
      text = put_byte _ _ _ _ _ _ put c.loop-left.invariant.text
          (rw (left, c.next_level-level.ensures.next) (prefix_plain c.loop-left.left c.loop-left.level c.loop-left.rest.now (omega arith) plain (omega arith)));
      level = rw (put, level_after_append, ← c.loop-left.invariant.level) c.next_level-level.ensures.next;
      bound = omega (arith, c.next_level-level.ensures.bound);
    }
