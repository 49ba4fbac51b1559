-- The names of every style (docs/LANGUAGE.md, "Names").
use Rattle.std.specs.Prelude.{ℕ, List, [], ◌∷◌, codes}
use Rattle.name_table.specs.declared.builtin.Builtin.TheVariants as builtin
use Rattle.name_table.specs.declared.names.Kind.{Kind}
use Rattle.name_table.specs.declared.names.Kind.TheVariants.{Builtin, Field, StrEntry, IntGlobal}
use Rattle.name_table.specs.declared.names.NameId.{NameId}

-- the names of every style in the order of their ids, from 0 on
abbrev pub opening_names : List (List ℕ × Kind)
opening_names =
    (codes "=", Builtin builtin.Equal)
    ∷ (codes ">", Builtin builtin.Greater)
    ∷ (codes "<", Builtin builtin.Less)
    ∷ (codes "+", Builtin builtin.Plus)
    ∷ (codes "-", Builtin builtin.Minus)
    ∷ (codes "*", Builtin builtin.Join)
    ∷ (codes ":=", Builtin builtin.Assign)
    ∷ (codes "add.period$", Builtin builtin.AddPeriod)
    ∷ (codes "call.type$", Builtin builtin.CallType)
    ∷ (codes "change.case$", Builtin builtin.ChangeCase)
    ∷ (codes "chr.to.int$", Builtin builtin.ChrToInt)
    ∷ (codes "cite$", Builtin builtin.Cite)
    ∷ (codes "duplicate$", Builtin builtin.Duplicate)
    ∷ (codes "empty$", Builtin builtin.Empty)
    ∷ (codes "format.name$", Builtin builtin.FormatName)
    ∷ (codes "if$", Builtin builtin.IfElse)
    ∷ (codes "int.to.chr$", Builtin builtin.IntToChr)
    ∷ (codes "int.to.str$", Builtin builtin.IntToStr)
    ∷ (codes "missing$", Builtin builtin.Missing)
    ∷ (codes "newline$", Builtin builtin.Newline)
    ∷ (codes "num.names$", Builtin builtin.NumNames)
    ∷ (codes "pop$", Builtin builtin.Pop)
    ∷ (codes "preamble$", Builtin builtin.Preamble)
    ∷ (codes "purify$", Builtin builtin.Purify)
    ∷ (codes "quote$", Builtin builtin.Quote)
    ∷ (codes "skip$", Builtin builtin.Skip)
    ∷ (codes "stack$", Builtin builtin.Stack)
    ∷ (codes "substring$", Builtin builtin.Substring)
    ∷ (codes "swap$", Builtin builtin.Swap)
    ∷ (codes "text.length$", Builtin builtin.TextLength)
    ∷ (codes "text.prefix$", Builtin builtin.TextPrefix)
    ∷ (codes "top$", Builtin builtin.Top)
    ∷ (codes "type$", Builtin builtin.TypeName)
    ∷ (codes "warning$", Builtin builtin.Warning)
    ∷ (codes "while$", Builtin builtin.WhileDo)
    ∷ (codes "width$", Builtin builtin.Width)
    ∷ (codes "write$", Builtin builtin.Write)
    ∷ (codes "crossref", Field)
    ∷ (codes "sort.key$", StrEntry)
    ∷ (codes "entry.max$", IntGlobal)
    ∷ (codes "global.max$", IntGlobal)
    ∷ []

-- how many names every style has: a name that it declares has this id or a later one
abbrev pub opening_count : ℕ
opening_count = 41

-- the id of `skip$`
abbrev pub skip : NameId
skip = record { 0 = 25 }

-- the id of the field `crossref`
abbrev pub crossref : NameId
crossref = record { 0 = 37 }

-- the id of the string variable `sort.key$` of each entry
abbrev pub sort_key : NameId
sort_key = record { 0 = 38 }

-- the id of the integer variable `entry.max$`
abbrev pub entry_max : NameId
entry_max = record { 0 = 39 }

-- the id of the integer variable `global.max$`
abbrev pub global_max : NameId
global_max = record { 0 = 40 }
