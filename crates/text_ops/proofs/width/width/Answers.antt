use Rattle.std.proofs.Common.{◌≡◌, ◌∙◌, ◌+◌, ◌*◌, ◌≤◌, length, arith, ap, sym, true}
use Rattle.std.specs.List.{sum_by}
use Rattle.std.proofs.lemmas.List.Sums.{sum_by-cons}
use Rattle.bv_base.specs.Levels.{begins_special, pieces_after, Special, inside, closing, beyond}
use Rattle.text_ops.specs.declared.width.TheConstants.{WIDEST_BYTE}
use Rattle.text_ops.specs.Width.{piece_width}
use Rattle.text_ops.proofs.PieceSteps.{special_piece, special_bound, tail, tail_length}
use Rattle.text_ops.proofs.width.width.Goals as goal

-- a special character
pub loop-rest-preserved-then-begins_special : goal.loop-rest-preserved-then-begins_special
loop-rest-preserved-then-begins_special c =
    let begins : begins_special c.loop-rest.level c.loop-rest.rest.now ≡ true = sym c.begins_special.ensures ∙ c.if-begins_special.true in
    let step : sum_by piece_width (pieces_after 0 c.loop-rest.level c.loop-rest.rest.now) ≡ c.special_width-special.result.width + sum_by piece_width (pieces_after 0 c.loop-rest.level c.special_width-special.result.later.now)
    = rw (c.special_width-special.ensures.width, c.special_width-special.ensures.later)
    (ap (sum_by piece_width) (special_piece c.loop-rest.level c.loop-rest.rest.now begins) ∙ sum_by-cons piece_width (Special (inside 1 (tail c.loop-rest.rest.now)) (closing 1 (tail c.loop-rest.rest.now))) (pieces_after 0 c.loop-rest.level (beyond 1 (tail c.loop-rest.rest.now)))) in
    let within : c.special_width-special.result.width + WIDEST_BYTE * length c.special_width-special.result.later.now ≤ WIDEST_BYTE * length (tail c.loop-rest.rest.now) = c.special_width-special.ensures.bound in
    let shorter : length c.special_width-special.result.later.now + 1 ≤ length c.loop-rest.rest.now = rw c.special_width-special.ensures.later (special_bound c.loop-rest.level c.loop-rest.rest.now begins) in
    record {
      width = omega (arith, step, c.loop-rest.invariant.width);
      bound = omega (arith, within, tail_length c.loop-rest.rest.now (omega arith), c.loop-rest.invariant.bound);
      level_bound = omega (arith, shorter, c.loop-rest.invariant.level_bound);
    }
