-- Where a command may begin (docs/LANGUAGE.md, "Commands").
use Rattle.std.specs.Prelude.{ℕ, Bool, true, false, ◌||◌, if◌then◌else◌, List, [], ◌∷◌, ◌++◌, Option, None, Some, Result, Ok, Err}
use Rattle.std.specs.Option.{option_map_or}
use Rattle.bv_base.specs.declared.place.Place.{Place}
use Rattle.name_table.specs.declared.style.CommandAt.{CommandAt}
use Rattle.name_table.specs.declared.style.Command.{Command}
use Rattle.bst_lex.specs.declared.lexeme.Shape.{Shape}
use Rattle.bst_lex.specs.declared.lexeme.Shape.TheVariants.{Name}
use Rattle.bst_parse.specs.declared.grammar.Word.{Word}
use Rattle.bst_parse.specs.declared.grammar.Word.TheVariants.{Entry, Execute, Function, Integers, Iterate, Macro, Read, Reverse, Sort, Strings}
use Rattle.bst_parse.specs.declared.fault.StyleFault.{StyleFault}
use Rattle.bst_parse.specs.declared.fault.StyleFault.TheVariants.{UnknownCommand, SecondEntry, SecondRead, ReadBeforeEntry, MacroAfterRead, CommandBeforeRead, Expected}
use Rattle.bst_parse.specs.Commands.{word_of, parts_of, declaration_of}
use Rattle.bst_parse.specs.Names.{lowered}
use Rattle.bst_parse.specs.Progress.{Progress}

-- what the order of commands has against a command: ENTRY and READ come at most once, READ after ENTRY, MACRO before
-- READ, and EXECUTE, ITERATE, REVERSE and SORT after READ
abbrev pub order_fault : Word → Place → Progress → Option StyleFault
order_fault Entry place p = if p.has_entry then Some (SecondEntry place) else None
order_fault Read place p =
    if p.has_read then Some (SecondRead place) else if p.has_entry then None else Some (ReadBeforeEntry place)
order_fault Macro place p = if p.has_read then Some (MacroAfterRead place) else None
order_fault Execute place p = if p.has_read then None else Some (CommandBeforeRead place)
order_fault Iterate place p = if p.has_read then None else Some (CommandBeforeRead place)
order_fault Reverse place p = if p.has_read then None else Some (CommandBeforeRead place)
order_fault Sort place p = if p.has_read then None else Some (CommandBeforeRead place)
order_fault Function place p = None
order_fault Integers place p = None
order_fault Strings place p = None

-- the word is that of ENTRY
abbrev pub is_entry : Word → Bool
is_entry Entry = true
is_entry _ = false

-- the word is that of READ
abbrev pub is_read : Word → Bool
is_read Read = true
is_read _ = false

-- a command at the end of the commands so far; one that names a function comes with that name
abbrev pub with_declaration : Option Command → Place → List CommandAt → List CommandAt
with_declaration None place commands = commands
with_declaration (Some command) place commands = commands ++ record { command = command; place = place } ∷ []

-- a command begins
abbrev pub begun : Word → Place → Progress → Progress
begun word place p =
    record p {
      commands = with_declaration (declaration_of word) place p.commands;
      has_entry = p.has_entry || is_entry word;
      has_read = p.has_read || is_read word;
      parts = parts_of word;
      place = place;
    }

-- a command begins where the order of commands has nothing against it
abbrev pub begin : Word → Place → Progress → Result Progress StyleFault
begin word place p = option_map_or Err (order_fault word place p) (Ok (begun word place p))

-- a name where a command may begin
abbrev pub begin_named : Option Word → Place → Progress → Result Progress StyleFault
begin_named None place p = Err (UnknownCommand place)
begin_named (Some word) place p = begin word place p

-- a lexeme where a command may begin
abbrev pub take_word : Shape → Place → List ℕ → Progress → Result Progress StyleFault
take_word Name place text p = begin_named (word_of (lowered text)) place p
take_word _ place text p = Err (Expected place Name)
