-- How tables stand for lists.
use Rattle.std.specs.Prelude.{◌≡◌, ℕ, Bool, false, List, Option}
use Rattle.std.specs.List.{AllByRecursion}
use Rattle.std.specs.Option.{option_map_or}
use Rattle.bv_base.specs.KeySets.{has_lowered}
use Rattle.aux_read.specs.declared.aux.AuxItem.{AuxItem}
use Rattle.aux_read.specs.declared.aux.AuxItem.TheVariants.{Cite, All, Input}
use Rattle.bib_read.specs.RawEntries.{RawEntry}
use Rattle.bst_meaning.specs.EntryLists.{Entry}
use Rattle.entry_list.specs.declared.citing.Seen.{Seen}
use Rattle.entry_list.specs.Fields.{Declared, entry_with, is_parent_listed}
use Rattle.entry_list.specs.Keys.{Listed}
use Rattle.entry_list.specs.Parents.{parent_of}

-- what a request asks for was asked for before
abbrev pub was_asked : AuxItem → Seen → Bool
was_asked (Cite key) seen = has_lowered key seen.keys
was_asked All seen = seen.all
was_asked (Input _ _) seen = false

-- a parent is there, and its key is in a set
abbrev pub has_parent : List (List ℕ) → Option RawEntry → Bool
has_parent listed parent = option_map_or (λ found. has_lowered found.key listed) parent false

-- keys say of the parent of an entry whether it is in a list
abbrev pub TellsParent : List (List ℕ) → List RawEntry → List Listed → Listed → Type 0
TellsParent keys entries list listed =
    let parent = parent_of entries listed.entry in has_parent keys parent ≡ is_parent_listed list parent

-- keys say of each parent of a list whether it is in the list
abbrev pub TellsParents : List (List ℕ) → List RawEntry → List Listed → Type 0
TellsParents keys entries list = AllByRecursion (TellsParent keys entries list) list

-- an entry of the list, where keys say whether its parent is in the list
abbrev pub entry_by : List (List ℕ) → List Declared → List RawEntry → Listed → Entry
entry_by keys fields entries listed =
    let parent = parent_of entries listed.entry in entry_with fields listed parent (has_parent keys parent)
