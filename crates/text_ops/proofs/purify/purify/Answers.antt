use Rattle.std.proofs.Common.{◌≡◌, ◌∙◌, ◌++◌, arith, ap, sym, true, rules}
use Rattle.std.specs.List.{flat_map, list_all}
use Rattle.bv_base.specs.Levels.{inside, special_parts, begins_special, pieces_after}
use Rattle.text_ops.specs.Purify.{is_plain_byte, purified_part, purified_piece}
use Rattle.text_ops.proofs.PlainPurified.{plain_purified}
use Rattle.text_ops.proofs.PieceSteps.{put_bytes, special_piece, special_bound, tail}
use Rattle.text_ops.proofs.purify.purify.Goals as goal

-- a text without `{`
pub returns-then-is_plain : goal.returns-then-is_plain
returns-then-is_plain c =
    let plain : list_all is_plain_byte c.args.s.now ≡ true = sym c.is_plain.ensures ∙ c.if-is_plain.true in
    rw (← plain_purified 0 c.args.s.now plain) (search rules)

-- a special character
pub loop-rest-preserved-then-begins_special : goal.loop-rest-preserved-then-begins_special
loop-rest-preserved-then-begins_special c =
    let begins : begins_special c.loop-rest.level c.loop-rest.rest.now ≡ true = sym c.begins_special.ensures ∙ c.if-begins_special.true in
    let put : c.purify_special.new.out.items ≡ c.loop-rest.out.items ++ flat_map purified_part (special_parts (inside 1 (tail c.loop-rest.rest.now))) = c.in_ok-rest.ensures.0 in
    let step : flat_map purified_piece (pieces_after 0 c.loop-rest.level c.loop-rest.rest.now) ≡ flat_map purified_part (special_parts (inside 1 (tail c.loop-rest.rest.now))) ++ flat_map purified_piece (pieces_after 0 c.loop-rest.level c.in_ok-rest.rest.now)
    = rw c.in_ok-rest.ensures.1 (ap (flat_map purified_piece) (special_piece c.loop-rest.level c.loop-rest.rest.now begins)) in
    record {
      items = put_bytes _ _ _ _ _ _ put c.loop-rest.invariant.items step;
      bound = rw c.in_ok-rest.ensures.1 (omega (arith, special_bound c.loop-rest.level c.loop-rest.rest.now begins));
    }
