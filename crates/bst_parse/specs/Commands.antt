-- The commands and their parts (docs/LANGUAGE.md, "Commands").
use Rattle.std.specs.Prelude.{ℕ, List, [], ◌∷◌, Option, None, Some, if◌then◌else◌, codes}
use Rattle.name_table.specs.declared.names.Kind.TheVariants.{Field, IntEntry, StrEntry, IntGlobal, StrGlobal}
use Rattle.name_table.specs.declared.names.NameId.{NameId}
use Rattle.name_table.specs.declared.style.Command.{Command}
use Rattle.name_table.specs.declared.style.Command.TheVariants as command
use Rattle.name_table.specs.Names.{same_name}
use Rattle.bst_parse.specs.declared.grammar.Word.{Word}
use Rattle.bst_parse.specs.declared.grammar.Word.TheVariants.{Entry, Execute, Function, Integers, Iterate, Macro, Read, Reverse, Sort, Strings}
use Rattle.bst_parse.specs.declared.grammar.Caller.{Caller}
use Rattle.bst_parse.specs.declared.grammar.Caller.TheVariants as caller
use Rattle.bst_parse.specs.declared.grammar.Part.{Part}
use Rattle.bst_parse.specs.declared.grammar.Part.TheVariants.{Open, Close, Names, Target, FunctionName, Body, MacroName, MacroText}

-- the command that a lowered name begins, among some words
abbrev pub word_among : List ℕ → List (List ℕ × Word) → Option Word
word_among name [] = None
word_among name (first ∷ rest) = if same_name name first.0 then Some first.1 else word_among name rest

-- the words of the commands, in lower case
abbrev pub command_words : List (List ℕ × Word)
command_words =
    (codes "entry", Entry)
    ∷ (codes "execute", Execute)
    ∷ (codes "function", Function)
    ∷ (codes "integers", Integers)
    ∷ (codes "iterate", Iterate)
    ∷ (codes "macro", Macro)
    ∷ (codes "read", Read)
    ∷ (codes "reverse", Reverse)
    ∷ (codes "sort", Sort)
    ∷ (codes "strings", Strings)
    ∷ []

-- the command that a lowered name begins
abbrev pub word_of : List ℕ → Option Word
word_of name = word_among name command_words

-- the command of a word, where it names no function, and the parts that follow the word
abbrev pub begun_by : Word → Option Command × List Part
begun_by Entry = (Some command.Entry, Open ∷ Names Field ∷ Open ∷ Names IntEntry ∷ Open ∷ Names StrEntry ∷ [])
begun_by Execute = (None, Open ∷ Target caller.Execute ∷ Close ∷ [])
begun_by Function = (None, Open ∷ FunctionName ∷ Close ∷ Body ∷ [])
begun_by Integers = (Some command.Integers, Open ∷ Names IntGlobal ∷ [])
begun_by Iterate = (None, Open ∷ Target caller.Iterate ∷ Close ∷ [])
begun_by Macro = (Some command.Macro, Open ∷ MacroName ∷ Close ∷ Open ∷ MacroText ∷ Close ∷ [])
begun_by Read = (Some command.Read, [])
begun_by Reverse = (None, Open ∷ Target caller.Reverse ∷ Close ∷ [])
begun_by Sort = (Some command.Sort, [])
begun_by Strings = (Some command.Strings, Open ∷ Names StrGlobal ∷ [])

-- the parts that follow a command's word
abbrev pub parts_of : Word → List Part
parts_of word = (begun_by word).1

-- the command of a word that names no function
abbrev pub declaration_of : Word → Option Command
declaration_of word = (begun_by word).0

-- the command that calls a function
abbrev pub call_of : Caller → NameId → Command
call_of caller.Execute id = command.Execute id
call_of caller.Iterate id = command.Iterate id
call_of caller.Reverse id = command.Reverse id
