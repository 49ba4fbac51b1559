-- A separator that stands where the loop is stands first.
use Rattle.std.proofs.Common.{◌≡◌, ℕ, List, ◌∷◌, ◌+◌, ◌-◌, true, false, subst, length, drop, get_or, sym, ap, ◌∙◌, arith}
use Rattle.std.proofs.lemmas.List.{length-drop, drop-drop, drop_more}
use Rattle.bv_base.specs.Levels.{next_level}
use Rattle.name_split.specs.Names.{begins_separator, separators}
use Rattle.name_split.proofs.Separating.{separator_here, separator_not_here}
use Rattle.name_split.proofs.names.first_separator.Goals as goal

pub returns-then-begins_separator : goal.returns-then-begins_separator
returns-then-begins_separator c =
    let text : List ℕ = c.args.text.now in
    let at : ℕ = c.loop-at.at in
    let begins : begins_separator c.loop-at.level c.loop-at.after_white (drop at text) ≡ true =
    subst (λ xs. begins_separator c.loop-at.level c.loop-at.after_white xs ≡ true) c.split_at.ensures.back
    (sym c.begins_separator.ensures ∙ c.if-begins_separator.true) in
    let here = λ (base : ℕ). separator_here (base + at) c.loop-at.level c.loop-at.after_white (drop at text) begins in
    record {
      separators = λ base.
          sym (c.loop-at.invariant.same base) ∙ (here base).1
          ∙ ap (λ xs. (base + at) ∷ separators (base + at + 3) 0 false xs) (drop-drop 3 at text)
          ∙ ap (λ n. (base + at) ∷ separators n 0 false (drop (at + 3) text)) (omega arith);
      within =
          (let left : length (drop at text) ≡ length text - at = length-drop at text in
          let h = (here 0).0 in omega arith);
    }

pub loop-at-preserved : goal.loop-at-preserved
loop-at-preserved c =
    let text : List ℕ = c.args.text.now in
    let at : ℕ = c.loop-at.at in
    let b : ℕ = get_or text at 0 in
    let first : drop at text ≡ b ∷ drop (at + 1) text = drop_more text at 0 c.loop-at-test.true in
    let rest : List ℕ = drop (at + 1) text in
    let none : begins_separator c.loop-at.level c.loop-at.after_white (b ∷ rest) ≡ false =
    subst (λ xs. begins_separator c.loop-at.level c.loop-at.after_white xs ≡ false) (c.split_at.ensures.back ∙ first)
    (sym c.begins_separator.ensures ∙ c.if-begins_separator.false) in
    record {
      low = omega (arith, c.next_level-level.ensures.bound);
      same = λ base.
          ap (λ n. separators n c.next_level-level.result c.is_white-after_white.result rest)
          {x = base + (at + 1)} {y = base + at + 1} (omega arith)
          ∙ ap (λ n. separators (base + at + 1) n c.is_white-after_white.result rest) c.next_level-level.ensures.next
          ∙ ap (λ w. separators (base + at + 1) (next_level c.loop-at.level b) w rest) c.is_white-after_white.ensures
          ∙ sym (separator_not_here (base + at) c.loop-at.level c.loop-at.after_white b rest none)
          ∙ ap (separators (base + at) c.loop-at.level c.loop-at.after_white) (sym first)
          ∙ c.loop-at.invariant.same base;
    }
