-- The parts of a command (docs/LANGUAGE.md, "Commands" and "Names").
use Rattle.std.specs.Prelude.{ℕ, ◌-◌, nat_le, if◌then◌else◌, List, [], ◌∷◌, ◌++◌, length, take, drop, Option, None, Some, is_some, Result, Ok, Err}
use Rattle.bv_base.specs.declared.place.Place.{Place}
use Rattle.name_table.specs.declared.names.Kind.{Kind}
use Rattle.name_table.specs.declared.names.Kind.TheVariants.{Wizard}
use Rattle.name_table.specs.declared.names.NameId.{NameId}
use Rattle.name_table.specs.declared.style.Command.TheVariants.{Function}
use Rattle.name_table.specs.Names.{id_of, kind_at}
use Rattle.name_table.specs.Sound.{is_callable}
use Rattle.bst_lex.specs.declared.lexeme.Shape.{Shape}
use Rattle.bst_lex.specs.declared.lexeme.Shape.TheVariants.{OpenBrace, CloseBrace, Text, Name}
use Rattle.bst_parse.specs.declared.grammar.Caller.{Caller}
use Rattle.bst_parse.specs.declared.grammar.Part.{Part}
use Rattle.bst_parse.specs.declared.grammar.Part.TheVariants.{Open, Close, Names, Target, FunctionName, Body, MacroName, MacroText}
use Rattle.bst_parse.specs.declared.fault.StyleFault.{StyleFault}
use Rattle.bst_parse.specs.declared.fault.StyleFault.TheVariants.{UnknownName, AlreadyDefined, NotCallable, Expected, TooMany}
use Rattle.bst_parse.specs.Bodies.{next_body, function_begun}
use Rattle.bst_parse.specs.Commands.{call_of}
use Rattle.bst_parse.specs.Names.{lowered, is_definable, has_macro}
use Rattle.bv_base.specs.Answers.{then_do}
use Rattle.name_table.specs.declared.style.TheConstants.{MOST_BODIES}
use Rattle.name_table.specs.declared.names.TheConstants.{MOST_NAMES}
use Rattle.bst_parse.specs.Progress.{Progress}

-- `{`
abbrev pub take_open : Shape → Place → Progress → Result Progress StyleFault
take_open OpenBrace place p = Ok p
take_open _ place p = Err (Expected place OpenBrace)

-- `}`
abbrev pub take_close : Shape → Place → Progress → Result Progress StyleFault
take_close CloseBrace place p = Ok p
take_close _ place p = Err (Expected place CloseBrace)

-- a name that may be defined, lowered
abbrev pub definable : Shape → Place → List ℕ → Result (List ℕ) StyleFault
definable Name place text = if is_definable text then Ok (lowered text) else Err (Expected place Name)
definable _ place text = Err (Expected place Name)

-- the names once a lowered name is defined, which isn't defined before, where the names have room
abbrev pub defined : List ℕ → Kind → Place → List (List ℕ × Kind) → Result (List (List ℕ × Kind)) StyleFault
defined name kind place names =
    if is_some (id_of name names) then Err (AlreadyDefined place)
    else if nat_le MOST_NAMES (length names) then Err (TooMany place)
    else Ok (names ++ (name, kind) ∷ [])

-- a name that is defined as this kind
abbrev pub define : Kind → Shape → Place → List ℕ → Progress → Result Progress StyleFault
define kind shape place text p =
    then_do (definable shape place text) (λ name.
    then_do (defined name kind place p.names) (λ names.
    Ok (record p { names = names })))

-- a name of a list of names, or the brace after them
abbrev pub take_names : Kind → List Part → Shape → Place → List ℕ → Progress → Result Progress StyleFault
take_names kind rest CloseBrace place text p = Ok (record p { parts = rest })
take_names kind rest shape place text p = define kind shape place text p

-- the next id
abbrev pub next_name : List (List ℕ × Kind) → NameId
next_name names = record { 0 = length names }

-- the name of a function, which is defined with the body that begins next
abbrev pub take_function_name : Shape → Place → List ℕ → Progress → Result Progress StyleFault
take_function_name shape place text p =
    then_do (define (Wizard (next_body p.bodies)) shape place text p) (λ q.
    Ok (record q {
      function = Some (next_name p.names);
      commands = p.commands ++ record { command = Function (next_name p.names); place = p.place } ∷ [];
    }))

-- the name that a command calls, where it is there
abbrev pub called : Caller → Option NameId → Place → Progress → Result Progress StyleFault
called caller None place p = Err (UnknownName place)
called caller (Some id) place p =
    if is_callable (kind_at id p.names)
    then Ok (record p { commands = p.commands ++ record { command = call_of caller id; place = p.place } ∷ [] })
    else Err (NotCallable place)

-- the name that a command calls
abbrev pub take_target : Caller → Shape → Place → List ℕ → Progress → Result Progress StyleFault
take_target caller Name place text p = called caller (id_of (lowered text) p.names) place p
take_target caller _ place text p = Err (Expected place Name)

-- the name of a macro
abbrev pub take_macro_name : Shape → Place → List ℕ → Progress → Result Progress StyleFault
take_macro_name shape place text p =
    then_do (definable shape place text) (λ name.
    if has_macro name p.macros then Err (AlreadyDefined place) else Ok (record p { macro_name = name }))

-- a text without its marks
abbrev pub unmarked : List ℕ → List ℕ
unmarked text = take (length text - 2) (drop 1 text)

-- the value of a macro
abbrev pub take_macro_text : Shape → Place → List ℕ → Progress → Result Progress StyleFault
take_macro_text Text place text p =
    Ok (record p { macros = p.macros ++ record { name = p.macro_name; value = unmarked text } ∷ [] })
take_macro_text _ place text p = Err (Expected place Text)

-- the opening brace of a function's body
abbrev pub take_body : Shape → Place → Progress → Result Progress StyleFault
take_body OpenBrace place p =
    if nat_le MOST_BODIES (length p.bodies) then Err (TooMany place)
    else Ok (record p { bodies = function_begun place p.bodies; opened = next_body p.bodies ∷ p.opened })
take_body _ place p = Err (Expected place OpenBrace)

-- what a part takes, before the part is done
abbrev pub take_step : Part → Shape → Place → List ℕ → Progress → Result Progress StyleFault
take_step Open shape place text p = take_open shape place p
take_step Close shape place text p = take_close shape place p
take_step (Names kind) shape place text p = define kind shape place text p
take_step (Target caller) shape place text p = take_target caller shape place text p
take_step FunctionName shape place text p = take_function_name shape place text p
take_step Body shape place text p = take_body shape place p
take_step MacroName shape place text p = take_macro_name shape place text p
take_step MacroText shape place text p = take_macro_text shape place text p

-- a part that is done with one lexeme
abbrev pub pass : List Part → Progress → Result Progress StyleFault
pass rest p = Ok (record p { parts = rest })

-- a lexeme of a part; a list of names is done with its closing brace, every other part with one lexeme
abbrev pub take_part : Part → List Part → Shape → Place → List ℕ → Progress → Result Progress StyleFault
take_part (Names kind) rest shape place text p = take_names kind rest shape place text p
take_part part rest shape place text p = then_do (take_step part shape place text p) (pass rest)
