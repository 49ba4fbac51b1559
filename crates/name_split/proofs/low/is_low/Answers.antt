-- The special character where the loop is decides.
use Rattle.std.proofs.Common.{◌≡◌, ℕ, ◌+◌, ◌&&◌, nat_eq, Bool, true, false, cond, List, ◌∷◌, drop, get_or, sym, ap, ◌∙◌, subst}
use Rattle.bv_base.specs.Levels.{begins_special, inside, is_ascii_letter, next_level}
use Rattle.name_split.specs.Tokens.{is_small, low_from, special_low}
use Rattle.name_split.proofs.Here.{here}
use Rattle.name_split.proofs.low.is_low.Goals as goal

special_first : (level b : ℕ) (rest : List ℕ) → (nat_eq level 0 && is_ascii_letter b) ≡ false
    → begins_special level (b ∷ rest) ≡ true → low_from level (b ∷ rest) ≡ special_low (inside 1 rest)
special_first level b rest e f =
    let other : Bool = low_from (next_level level b) rest in
    ap (λ v. cond v (is_small b) (cond (begins_special level (b ∷ rest)) (special_low (inside 1 rest)) other)) e
    ∙ ap (λ v. cond v (special_low (inside 1 rest)) other) f

pub returns-then-begins_special : goal.returns-then-begins_special
returns-then-begins_special c =
    let b : ℕ = get_or c.args.token.now c.loop-at.at 0 in
    let rest : List ℕ = drop (c.loop-at.at + 1) c.args.token.now in
    let h = here c.args.token.now c.loop-at.at c.split_at.result.1.now c.loop-at-test.true c.split_at.ensures.back in
    let after : c.split_at-then-begins_special.result.1.now ≡ rest =
    c.split_at-then-begins_special.ensures.back ∙ ap (drop 1) h.back in
    let begins : begins_special c.loop-at.level (b ∷ rest) ≡ true =
    subst (λ xs. begins_special c.loop-at.level xs ≡ true) h.back (sym c.begins_special.ensures ∙ c.if-begins_special.true) in
    c.special_low.ensures
    ∙ ap special_low (c.inside.ensures ∙ ap (inside 1) after)
    ∙ sym (special_first c.loop-at.level b rest (sym c.is_plain_letter.ensures ∙ c.if-is_plain_letter.false) begins)
    ∙ ap (low_from c.loop-at.level) (sym h.first)
    ∙ c.loop-at.invariant.same
