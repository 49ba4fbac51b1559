-- The bytes of a joined entry are numbers below 256 (docs/DATA.md, "The list of entries").
use Rattle.std.specs.Prelude.{ℕ, List, Option}
use Rattle.std.specs.List.{AllByRecursion}
use Rattle.std.specs.Option.{ForSome}
use Rattle.bst_meaning.specs.Entries.{IsByteList}
use Rattle.bst_meaning.specs.EntryLists.{Entry}

-- the key, the type and the fields of an entry are bytes
pub record HasBytes (entry : Entry) : Type 0 where
  pub key : IsByteList entry.key
  pub entry_type : IsByteList entry.entry_type
  pub fields : AllByRecursion (λ f. ForSome f.value IsByteList) entry.fields

-- the keys, the types and the fields of entries are bytes
abbrev pub HaveBytes : List Entry → Type 0
HaveBytes = AllByRecursion HasBytes

-- the texts that are there are bytes
abbrev pub AreByteTexts : List (Option (List ℕ)) → Type 0
AreByteTexts = AllByRecursion (λ text. ForSome text IsByteList)
