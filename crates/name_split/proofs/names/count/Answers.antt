-- There is one more name than separators.
use Rattle.std.proofs.Common.{◌≡◌, ◌+◌, ◌<◌, length, ◌∙◌, sym, ap, arith}
use Rattle.std.proofs.lemmas.Bool.{eqb-false}
use Rattle.name_split.proofs.Leaving.{names_counted}
use Rattle.name_split.proofs.names.count.Goals as goal

pub returns-else-is_empty-clause-names : goal.returns-else-is_empty-clause-names
returns-else-is_empty-clause-names c =
    let other : length c.args.text.now ≡ 0 → ⊥ = eqb-false (length c.args.text.now) 0 (sym c.is_empty.ensures ∙ c.if-is_empty.false) in
    let some : 0 < length c.args.text.now = omega arith in
    ap (λ n. 1 + n) c.separator_count.ensures.count ∙ sym (names_counted c.args.text.now some)
