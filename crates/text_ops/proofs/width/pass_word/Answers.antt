use Rattle.std.proofs.Common.{◌≡◌, ◌∙◌, ◌<◌, arith, sym, true, false, nat_eq, length, get_or}
use Rattle.bv_base.specs.Levels.{word_letters, is_closing}
use Rattle.text_ops.proofs.PartSteps.{word_after}
use Rattle.text_ops.proofs.PrintedSteps.{lettered_word, bare_word, bare_beyond}
use Rattle.text_ops.proofs.width.pass_word.Goals as goal

pub returns-then-not-is_empty-clause-parts : goal.returns-then-not-is_empty-clause-parts
returns-then-not-is_empty-clause-parts c =
    let lettered : nat_eq (length (word_letters c.args.text.now)) 0 ≡ false = grind arith in
    rw c.split_word-word.ensures.later (lettered_word c.args.level c.args.text.now lettered)

pub returns-then-not-is_empty-clause-later : goal.returns-then-not-is_empty-clause-later
returns-then-not-is_empty-clause-later c = rw c.split_word-word.ensures.later (word_after c.args.level c.args.text.now)

pub returns-clause-parts : goal.returns-clause-parts
returns-clause-parts c =
    let some : 0 < length c.args.text.now = omega arith in
    let bare : nat_eq (length (word_letters c.args.text.now)) 0 ≡ true = grind arith in
    let within : is_closing c.args.level (get_or c.args.text.now 0 0) ≡ false = sym c.is_closing.ensures ∙ c.if-is_closing.false in
    rw (c.next_level.ensures.next, c.split_white.ensures.later) (bare_word c.args.level c.args.text.now some bare within)

pub returns-clause-later : goal.returns-clause-later
returns-clause-later c =
    let some : 0 < length c.args.text.now = omega arith in
    let within : is_closing c.args.level (get_or c.args.text.now 0 0) ≡ false = sym c.is_closing.ensures ∙ c.if-is_closing.false in
    rw (c.next_level.ensures.next, c.split_white.ensures.later) (bare_beyond c.args.level c.args.text.now some within)
