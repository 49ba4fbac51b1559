-- The grammar and the definition are the same both ways.
use Rattle.std.proofs.Common.{◌≡◌, ap, subst}
use Rattle.bst_lex.specs.Grammar.{Spells}
use Rattle.bst_lex.specs.Lexemes.{Lexed, lexed_after}
use Rattle.bv_base.specs.Places.{first_place}
use Rattle.bst_lex.proofs.Reading.{read}
use Rattle.bst_lex.proofs.Spelling.{spelled}
use Rattle.bst_lex.proofs.laws.lexemes_as_spelled.Goals as goal

pub returns : goal.returns
returns c = λ lexemes fault.
    let bytes = c.args.source.now in
    let found : Lexed = lexed_after 0 0 first_place bytes in (
      λ spells.
          let is : found ≡ record { lexemes = lexemes; fault = fault } = read 0 first_place bytes lexemes fault spells in
          (ap (λ (l : Lexed). l.lexemes) is, ap (λ (l : Lexed). l.fault) is),
      λ same.
          subst (λ ls. Spells 0 first_place bytes ls fault) same.0
          (subst (λ f. Spells 0 first_place bytes found.lexemes f) same.1 (spelled 0 first_place bytes)),
    )
