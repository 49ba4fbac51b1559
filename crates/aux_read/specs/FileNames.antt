-- The names of files that an `.aux` file gives (docs/DATA.md, "Lines of an .aux file").
use Rattle.std.specs.Prelude.{◌≡◌, ℕ, true, List, IfSome}
use Rattle.std.specs.List.{AllByRecursion}
use Rattle.std.specs.Str.{is_utf8}
use Rattle.aux_read.specs.declared.aux.Aux.{Aux}
use Rattle.aux_read.specs.declared.aux.AuxItem.{AuxItem}
use Rattle.aux_read.specs.declared.aux.AuxItem.TheVariants.{Input}

-- the name of a file is UTF-8
abbrev pub IsFileName : List ℕ → Type 0
IsFileName name = is_utf8 name ≡ true

-- each is the name of a file
abbrev pub AreFileNames : List (List ℕ) → Type 0
AreFileNames names = AllByRecursion IsFileName names

-- a request for a further file has the name of a file
abbrev pub HasFileName : AuxItem → Type 0
HasFileName (Input name place) = IsFileName name
HasFileName _ = Unit {0}

-- each request for a further file has the name of a file
abbrev pub HaveFileNames : List AuxItem → Type 0
HaveFileNames items = AllByRecursion HasFileName items

-- each name that is given, of a style, a database or a further file, is the name of a file
pub record GivesFileNames (aux : Aux) : Type 0 where
  pub items : HaveFileNames aux.items
  pub style : IfSome aux.style IsFileName
  pub databases : AreFileNames aux.databases
