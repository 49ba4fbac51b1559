-- The walk ends where no token is left.
use Rattle.std.proofs.Common.{◌≡◌, List, [], subst}
use Rattle.name_split.specs.declared.tokens.Token.{Token}
use Rattle.name_split.specs.Parts.{is_high, is_tied, last_end}
use Rattle.name_split.proofs.Surveying.{cut_fold, low_fold, walked}
use Rattle.name_split.proofs.survey.surveyed.Goals as goal

pub returns : goal.returns
returns c =
    let first : Token = c.in-Some.first in
    let last : Token = c.loop-token.last in
    let rest : List Token = c.next.new.self in
    let none : c.loop-token.tokens ≡ [] = c.in_default-next.ensures.0 in
    let start = first.start in
    walked c.args.tokens first rest last.end c.loop-token.low c.loop-token.von c.loop-token.chain
    c.span_to-2.result c.finished.result c.finished-2.result c.finished-3.result
    c.span_to-2.ensures c.finished.ensures c.finished-2.ensures c.finished-3.ensures
    c.in-Some.ensures
    (subst (λ ts. last_end last ts ≡ last_end first rest) none c.loop-token.invariant.all)
    (subst (λ ts. low_fold start c.loop-token.before c.loop-token.low last ts ≡ low_fold start _ _ first rest) none c.loop-token.invariant.low)
    (subst (λ ts. cut_fold is_high start c.loop-token.von last ts ≡ cut_fold is_high start _ first rest) none c.loop-token.invariant.von)
    (subst (λ ts. cut_fold is_tied start c.loop-token.chain last ts ≡ cut_fold is_tied start _ first rest) none c.loop-token.invariant.chain)
