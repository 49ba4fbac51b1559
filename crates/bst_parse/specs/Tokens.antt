-- The tokens of a body (docs/LANGUAGE.md, "Commands").
use Rattle.std.specs.Prelude.{ℕ, ◌+◌, Bool, false, nat_eq, nat_le, nat_lt, if◌then◌else◌, List, [], ◌∷◌, ◌++◌, length, drop, Option, None, Some, Result, Ok, Err}
use Rattle.bv_base.specs.declared.place.Place.{Place}
use Rattle.name_table.specs.declared.names.NameId.{NameId}
use Rattle.name_table.specs.declared.style.BodyId.{BodyId}
use Rattle.name_table.specs.declared.style.Token.{Token}
use Rattle.name_table.specs.declared.style.Token.TheVariants.{Int, Str, Quote, Call}
use Rattle.name_table.specs.Names.{id_of}
use Rattle.bst_lex.specs.declared.lexeme.Shape.{Shape}
use Rattle.bst_lex.specs.declared.lexeme.Shape.TheVariants.{OpenBrace, CloseBrace, Integer, Text, Quoted, Name}
use Rattle.bst_lex.specs.declared.lexeme.LexFault.TheVariants.{StuffAfterToken}
use Rattle.bst_lex.specs.Lexemes.{Seen}
use Rattle.bv_base.specs.Places.{along}
use Rattle.bst_parse.specs.declared.fault.StyleFault.{StyleFault}
use Rattle.bst_parse.specs.declared.fault.StyleFault.TheVariants.{Lex, UnknownName, SelfUse, TooDeep, TooMany}
use Rattle.bst_parse.specs.Bodies.{next_body, token_added, block_begun}
use Rattle.bst_parse.specs.Names.{lowered}
use Rattle.bst_parse.specs.Parts.{unmarked}
use Rattle.bv_base.specs.Answers.{then_do}
use Rattle.bst_parse.specs.declared.tokens.TheConstants.{DEEPEST}
use Rattle.name_table.specs.declared.style.TheConstants.{MOST_BODIES}
use Rattle.bst_parse.specs.Progress.{Progress}

-- `{` stands first
abbrev pub begins_block : List ℕ → Bool
begins_block [] = false
begins_block (b ∷ _) = nat_eq b 123

-- the id is that of the function that is being defined
abbrev pub is_own : NameId → Option NameId → Bool
is_own id None = false
is_own id (Some function) = nat_eq id.0 function.0

-- a name that is there, and isn't the function's own
abbrev pub not_own : Option NameId → Option NameId → Place → Result NameId StyleFault
not_own None function place = Err (UnknownName place)
not_own (Some id) function place = if is_own id function then Err (SelfUse place) else Ok id

-- a name that a lexeme uses: `{` doesn't follow directly, the name is defined, and the function doesn't name itself
abbrev pub used : List ℕ → Seen → List ℕ → Progress → Result NameId StyleFault
used source lexeme name p =
    if begins_block (drop (lexeme.start + length lexeme.text) source)
    then Err (Lex (StuffAfterToken (along lexeme.place (length lexeme.text))))
    else not_own (id_of (lowered name) p.names) p.function lexeme.place

-- a token at the end of a body
abbrev pub with_token : BodyId → Token → Place → Progress → Progress
with_token inside token place p =
    record p { bodies = token_added inside (record { token = token; place = place }) p.bodies }

-- a text at the end of a body
abbrev pub with_text : BodyId → Seen → Progress → Progress
with_text inside lexeme p =
    with_token inside (Str (record { 0 = length p.texts })) lexeme.place
    (record p { texts = p.texts ++ unmarked lexeme.text ∷ [] })

-- a block in a body: the outermost blocks have depth 1, and the deepest that may be have depth 256
abbrev pub begin_block : BodyId → Place → Progress → Result Progress StyleFault
begin_block inside place p =
    if nat_lt DEEPEST (length p.opened) then Err (TooDeep place)
    else if nat_le MOST_BODIES (length p.bodies) then Err (TooMany place)
    else Ok (record p {
      bodies = block_begun inside place p.bodies;
      opened = next_body p.bodies ∷ p.opened;
    })

-- a lexeme in a body: an integer, a text, a quoted name, a name, a block, or the closing brace
abbrev pub take_token : List ℕ → BodyId → Shape → Seen → Progress → Result Progress StyleFault
take_token source inside OpenBrace lexeme p = begin_block inside lexeme.place p
take_token source inside CloseBrace lexeme p = Ok (record p { opened = drop 1 p.opened })
take_token source inside (Integer value) lexeme p = Ok (with_token inside (Int value) lexeme.place p)
take_token source inside Text lexeme p = Ok (with_text inside lexeme p)
take_token source inside Quoted lexeme p =
    then_do (used source lexeme (drop 1 lexeme.text) p) (λ id. Ok (with_token inside (Quote id) lexeme.place p))
take_token source inside Name lexeme p =
    then_do (used source lexeme lexeme.text p) (λ id. Ok (with_token inside (Call id) lexeme.place p))
