-- A gap is passed over, and then a token is taken, if there is one.
use Rattle.std.proofs.Common.{ℕ, ◌+◌, ◌∷◌, List, drop, sym, ap, ◌∙◌}
use Rattle.name_split.specs.declared.tokens.Token.{Token}
use Rattle.name_split.specs.Tokens.{first_is, is_low, tokens_of}
use Rattle.name_split.proofs.Taking.{taken, ended}
use Rattle.name_split.proofs.tokens.Tokens.next.Goals as goal

pub returns-then-length-eq0 : goal.returns-then-length-eq0
returns-then-length-eq0 c =
    let none = ended c.self.inside.rest.now c.split_at.result.1.now c.split_at-2.result.1.now c.self.inside.at
    c.gap_length-gap.result c.token_length-length.result
    (c.self.inside.at + c.gap_length-gap.result + c.token_length-length.result)
    c.gap_length-gap.ensures.gap c.split_at.ensures.back c.token_length-length.ensures.length
    c.split_at-2.ensures.back c.if-length-eq0.true in
    (sym c.self.view_is ∙ none.0, none.1)

pub returns : goal.returns
returns c =
    let at : ℕ = c.self.inside.at + c.gap_length-gap.result in
    let count : ℕ = c.token_length-length.result in
    let more : List Token = tokens_of (at + count) c.split_at-2.result.1.now in
    sym c.self.view_is
    ∙ taken c.self.inside.rest.now c.split_at.result.1.now c.split_at-2.result.1.now c.self.inside.at
    c.gap_length-gap.result count
    c.gap_length-gap.ensures.gap c.split_at.ensures.back c.token_length-length.ensures.length
    c.split_at-2.ensures.back c.if-length-eq0.false
    ∙ ap (λ low. record { start = at; end = at + count; low = low; dash = first_is 45 (drop count c.split_at.result.1.now) } ∷ more)
    (sym (c.is_low.ensures ∙ ap is_low c.split_at-2.ensures.front))
    ∙ ap (λ dash. record { start = at; end = at + count; low = c.is_low.result; dash = dash } ∷ more)
    (sym (c.begins_with_dash.ensures ∙ ap (first_is 45) c.split_at-2.ensures.back))
