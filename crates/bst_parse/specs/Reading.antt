-- The style that some bytes are, or their first fault (docs/LANGUAGE.md, "Faults of styles").
use Rattle.std.specs.Prelude.{ℕ, Bool, false, ◌&&◌, nat_eq, if◌then◌else◌, List, [], ◌∷◌, length, Option, None, Some, Result, Ok, Err}
use Rattle.bv_base.specs.declared.place.Place.{Place}
use Rattle.name_table.specs.declared.style.BodyId.{BodyId}
use Rattle.name_table.specs.declared.style.Style.{Style}
use Rattle.name_table.specs.Opening.{opening_names}
use Rattle.bst_lex.specs.declared.lexeme.LexFault.{LexFault}
use Rattle.bst_lex.specs.Lexemes.{Seen, Reading, lexed}
use Rattle.bv_base.specs.Places.{first_place, place_at}
use Rattle.bst_parse.specs.declared.grammar.Part.{Part}
use Rattle.bst_parse.specs.declared.fault.StyleFault.{StyleFault}
use Rattle.bst_parse.specs.declared.fault.StyleFault.TheVariants.{Lex, EndOfFile}
use Rattle.bst_parse.specs.Bodies.{innermost}
use Rattle.bst_parse.specs.Parts.{take_part}
use Rattle.bv_base.specs.Answers.{then_do}
use Rattle.bst_parse.specs.Progress.{Progress}
use Rattle.bst_parse.specs.Tokens.{take_token}
use Rattle.bst_parse.specs.Words.{take_word}

-- before the first command
abbrev pub opening_progress : Progress
opening_progress =
    record {
      names = opening_names;
      commands = [];
      bodies = [];
      texts = [];
      macros = [];
      has_entry = false;
      has_read = false;
      parts = [];
      place = first_place;
      function = None;
      macro_name = [];
      opened = [];
    }

-- a lexeme outside bodies: a command's word where no part is to come, else a lexeme of that part
abbrev pub take_outside : List Part → Seen → Progress → Result Progress StyleFault
take_outside [] lexeme p = take_word lexeme.shape lexeme.place lexeme.text p
take_outside (part ∷ rest) lexeme p = take_part part rest lexeme.shape lexeme.place lexeme.text p

-- a lexeme in the innermost body that is open, or outside bodies
abbrev pub take_within : Option BodyId → List ℕ → Seen → Progress → Result Progress StyleFault
take_within None source lexeme p = take_outside p.parts lexeme p
take_within (Some inside) source lexeme p = take_token source inside lexeme.shape lexeme p

-- a lexeme of a source, after the lexemes before it
abbrev pub take_lexeme : List ℕ → Seen → Progress → Result Progress StyleFault
take_lexeme source lexeme p = take_within (innermost p.opened) source lexeme p

-- no part and no closing brace is to come
abbrev pub is_idle : Progress → Bool
is_idle p = nat_eq (length p.parts) 0 && nat_eq (length p.opened) 0

-- the style that has been read, where it doesn't end within a command
abbrev pub complete : Place → Progress → Result Style StyleFault
complete end p =
    if is_idle p
    then Ok (record {
      names = p.names;
      commands = p.commands;
      bodies = p.bodies;
      texts = p.texts;
      macros = p.macros;
    })
    else Err (EndOfFile end)

-- the end of the lexemes: their fault, or the text's end
abbrev pub ended : List ℕ → Option LexFault → Progress → Result Style StyleFault
ended source (Some fault) p = Err (Lex fault)
ended source None p = complete (place_at source (length source)) p

-- the lexemes that are left, one after the other; the first fault ends the reading
abbrev pub reading : List ℕ → List Seen → Option LexFault → Progress → Result Style StyleFault
reading source [] fault p = ended source fault p
reading source (lexeme ∷ rest) fault p = then_do (take_lexeme source lexeme p) (reading source rest fault)

-- what is left of a source, after what has been read of it
abbrev pub reading_on : Reading → Progress → Result Style StyleFault
reading_on r p = reading r.source r.left r.fault p

-- the style that some bytes are, or their first fault
abbrev pub style_of : List ℕ → Result Style StyleFault
style_of source = reading_on (lexed source) opening_progress
