-- A word in braces where the loop is comes first.
use Rattle.std.proofs.Common.{◌≡◌, ℕ, ◌+◌, true, List, ◌∷◌, length, take, drop, get_or, sym, ap, ◌∙◌, subst}
use Rattle.bv_base.specs.Levels.{inside}
use Rattle.name_split.specs.Formatted.{initial}
use Rattle.name_format.specs.Steps.{begins_word}
use Rattle.name_format.proofs.Initials.{word_first}
use Rattle.name_split.proofs.Here.{here}
use Rattle.name_format.proofs.initial.initial.Goals as goal

pub returns-then-begins_word : goal.returns-then-begins_word
returns-then-begins_word c =
    let b : ℕ = get_or c.args.token.now c.loop-at.at 0 in
    let rest : List ℕ = drop (c.loop-at.at + 1) c.args.token.now in
    let h = here c.args.token.now c.loop-at.at c.split_at.result.1.now c.loop-at-test.true c.split_at.ensures.back in
    let begins : begins_word (b ∷ rest) ≡ true =
    subst (λ xs. begins_word xs ≡ true) h.back (sym c.begins_word.ensures ∙ c.if-begins_word.true) in
    c.through_brace.ensures
    ∙ ap (λ xs. take (length (inside 1 (drop 1 xs)) + 2) xs) h.back
    ∙ sym (word_first b rest begins)
    ∙ ap initial (sym h.first)
    ∙ c.loop-at.invariant
