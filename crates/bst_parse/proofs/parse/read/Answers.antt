use Rattle.std.proofs.Common.{◌≡◌, length, take, drop, ap, subst, arith}
use Rattle.std.specs.Option.{IfSome}
use Rattle.std.specs.declared.option.Option.{Option}
use Rattle.bst_lex.specs.declared.lexeme.Lexeme.{Lexeme}
use Rattle.bv_base.specs.Places.{place_at}
use Rattle.bst_parse.proofs.Columns.{column_within}
use Rattle.bst_parse.proofs.parse.read.Goals as goal

-- the lexeme is a part of the source, which has at most 4194304 bytes
pub take-requires : goal.take-requires
take-requires c =
    let lexeme = c.in-Ok-Some.lexeme in
    let source = c.loop-lexeme.lexer.source in
    column_within source lexeme.text.now lexeme.start lexeme.place
    (omega (arith, ap (λ l. length l) c.loop-lexeme.invariant.source))
    (subst (λ (found : Option Lexeme). IfSome found (λ l. l.text.now ≡ take (length l.text.now) (drop l.start source))) c.in-Ok-Some.field-0-is c.in-Ok-Some.ensures.slice)
    (subst (λ (found : Option Lexeme). IfSome found (λ l. l.place ≡ place_at source l.start)) c.in-Ok-Some.field-0-is c.in-Ok-Some.ensures.place)
