use Rattle.std.proofs.Common.{◌≡◌, ◌∙◌, ◌<◌, ◌++◌, ◌∷◌, [], arith, ap, sym, true, false, length, get_or, rules, refl}
use Rattle.std.specs.List.{list_all}
use Rattle.bv_base.specs.Levels.{begins_special, pieces_after}
use Rattle.text_ops.specs.ChangeCase.{begins_title, leaves, changed_pieces, whole_special, changed_special, is_simple_byte}
use Rattle.text_ops.proofs.PieceSteps.{put_bytes, put_byte, special_bound, tail, tail_length}
use Rattle.text_ops.proofs.CaseSteps.{special_case, plain_case, behind_special}
use Rattle.text_ops.proofs.SimpleCase.{simple_case}
use Rattle.text_ops.proofs.change_case.change_case.Goals as goal

-- a text without braces and colons
pub returns-then-is_simple : goal.returns-then-is_simple
returns-then-is_simple c =
    let simple : list_all is_simple_byte c.args.s.now ≡ true = sym c.is_simple.ensures ∙ c.if-is_simple.true in
    rw (← simple_case c.args.mode c.args.s.now simple) c.simply_changed.ensures

-- a special character that stays whole
pub loop-rest-preserved-in_ok-rest : goal.loop-rest-preserved-in_ok-rest
loop-rest-preserved-in_ok-rest c =
    let begins : begins_special c.loop-rest.level c.loop-rest.rest.now ≡ true = sym c.begins_special.ensures ∙ c.if-begins_special.true in
    let left : leaves c.args.mode (begins_title c.loop-rest.invariant.before) ≡ true = ap (leaves c.args.mode) (sym c.loop-rest.invariant.title) ∙ (sym c.is_left-left.ensures ∙ c.if-left.true) in
    let behind = behind_special c.args.mode c.loop-rest.invariant.before c.loop-rest.level (tail c.loop-rest.rest.now) in
    let put : c.copy_special.new.out.items ≡ c.loop-rest.out.items ++ whole_special (tail c.loop-rest.rest.now) = c.in_ok-rest.ensures.0 in
    let step : changed_pieces c.args.mode c.loop-rest.invariant.before (pieces_after 0 c.loop-rest.level c.loop-rest.rest.now) ≡ whole_special (tail c.loop-rest.rest.now) ++ changed_pieces c.args.mode behind.before' (pieces_after 0 c.loop-rest.level c.in_ok-rest.rest.now)
    = rw c.in_ok-rest.ensures.1 (special_case c.args.mode c.loop-rest.invariant.before c.loop-rest.level c.loop-rest.rest.now true begins left ∙ ap (λ xs. whole_special (tail c.loop-rest.rest.now) ++ xs) behind.same) in
    record {
      before = behind.before';
      title = sym behind.title;
      colon = sym behind.colon;
      items = put_bytes _ _ _ _ _ _ put c.loop-rest.invariant.items step;
      bound = rw c.in_ok-rest.ensures.1 (omega (arith, special_bound c.loop-rest.level c.loop-rest.rest.now begins));
    }

-- a special character that is changed
pub loop-rest-preserved-in_ok-rest-2 : goal.loop-rest-preserved-in_ok-rest-2
loop-rest-preserved-in_ok-rest-2 c =
    let begins : begins_special c.loop-rest.level c.loop-rest.rest.now ≡ true = sym c.begins_special.ensures ∙ c.if-begins_special.true in
    let left : leaves c.args.mode (begins_title c.loop-rest.invariant.before) ≡ false = ap (leaves c.args.mode) (sym c.loop-rest.invariant.title) ∙ (sym c.is_left-left.ensures ∙ c.if-left.false) in
    let behind = behind_special c.args.mode c.loop-rest.invariant.before c.loop-rest.level (tail c.loop-rest.rest.now) in
    let put : c.change_special.new.out.items ≡ c.loop-rest.out.items ++ changed_special c.args.mode (tail c.loop-rest.rest.now) = c.in_ok-rest-2.ensures.0 in
    let step : changed_pieces c.args.mode c.loop-rest.invariant.before (pieces_after 0 c.loop-rest.level c.loop-rest.rest.now) ≡ changed_special c.args.mode (tail c.loop-rest.rest.now) ++ changed_pieces c.args.mode behind.before' (pieces_after 0 c.loop-rest.level c.in_ok-rest-2.rest.now)
    = rw c.in_ok-rest-2.ensures.1 (special_case c.args.mode c.loop-rest.invariant.before c.loop-rest.level c.loop-rest.rest.now false begins left ∙ ap (λ xs. changed_special c.args.mode (tail c.loop-rest.rest.now) ++ xs) behind.same) in
    record {
      before = behind.before';
      title = sym behind.title;
      colon = sym behind.colon;
      items = put_bytes _ _ _ _ _ _ put c.loop-rest.invariant.items step;
      bound = rw c.in_ok-rest-2.ensures.1 (omega (arith, special_bound c.loop-rest.level c.loop-rest.rest.now begins));
    }

-- another byte
pub loop-rest-preserved : goal.loop-rest-preserved
loop-rest-preserved c =
    let some : 0 < length c.loop-rest.rest.now = omega arith in
    let plain : begins_special c.loop-rest.level c.loop-rest.rest.now ≡ false = sym c.begins_special.ensures ∙ c.if-begins_special.false in
    let first = get_or c.loop-rest.rest.now 0 0 in
    let left : c.is_left-left.result ≡ leaves c.args.mode (begins_title c.loop-rest.invariant.before) = c.is_left-left.ensures ∙ ap (leaves c.args.mode) c.loop-rest.invariant.title in
    let put : c.push.new.self.items ≡ c.loop-rest.out.items ++ c.changed_plain.result ∷ [] = search rules in
    let step : changed_pieces c.args.mode c.loop-rest.invariant.before (pieces_after 0 c.loop-rest.level c.loop-rest.rest.now) ≡ c.changed_plain.result ∷ changed_pieces c.args.mode (first ∷ c.loop-rest.invariant.before) (pieces_after 0 c.next_level-level.result (tail c.loop-rest.rest.now))
    = rw (c.changed_plain.ensures, left, c.next_level-level.ensures.next) (plain_case c.args.mode c.loop-rest.invariant.before c.loop-rest.level c.loop-rest.rest.now some plain) in
    record {
      before = first ∷ c.loop-rest.invariant.before;
      title = rw (c.with-before.ensures.title, c.loop-rest.invariant.colon) refl;
      colon = rw (c.with-before.ensures.colon, c.loop-rest.invariant.colon) refl;
      items = put_byte _ _ _ _ _ _ put c.loop-rest.invariant.items step;
      bound = omega (arith, c.next_level-level.ensures.bound, tail_length c.loop-rest.rest.now some);
    }
