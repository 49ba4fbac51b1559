-- The entries that others name by `crossref`, and which of them are appended (docs/DATA.md, "The list of entries").
use Rattle.std.specs.Prelude.{ℕ, Bool, false, ◌&&◌, not, if◌then◌else◌, List, [], ◌∷◌, ◌++◌, Option, codes, filter, flat_map}
use Rattle.std.specs.Option.{option_and_then, option_map, option_to_list}
use Rattle.bv_base.specs.KeySets.{has_lowered}
use Rattle.aux_read.specs.declared.aux.AuxItem.{AuxItem}
use Rattle.bib_read.specs.RawEntries.{RawEntry}
pub use Rattle.bib_read.specs.Names.{text_of}
use Rattle.entry_list.specs.Keys.{Listed, own, same_key, entry_of, is_listed, firsts}
use Rattle.entry_list.specs.Citing.{cited_list}

-- what an entry has as `crossref`
abbrev pub crossref_of : RawEntry → Option (List ℕ)
crossref_of entry = text_of (codes "crossref") entry.fields

-- the entry that an entry's `crossref` names
abbrev pub parent_of : List RawEntry → RawEntry → Option RawEntry
parent_of entries entry = option_and_then (λ name. entry_of name entries) (crossref_of entry)

-- the entries that a list names by `crossref`, one for each naming, in order and with their own keys
abbrev pub parents_of : List RawEntry → List Listed → List Listed
parents_of entries list =
    flat_map (λ listed. option_to_list (option_map own (parent_of entries listed.entry))) list

-- two entries of lists have one key
abbrev pub same_listed : Listed → Listed → Bool
same_listed a b = same_key a.key b.key

-- at least two of these have this key
abbrev pub is_named_twice : List ℕ → List Listed → Bool
is_named_twice key [] = false
is_named_twice key (first ∷ rest) =
    if same_key key first.key then is_listed key rest else is_named_twice key rest

-- a parent that at least two entries name and that isn't in the list
abbrev pub is_wanted : List Listed → List Listed → Listed → Bool
is_wanted parents list parent = is_named_twice parent.key parents && not (is_listed parent.key list)

-- the wanted ones of these parents, in the order in which they are first named
abbrev pub wanted : List Listed → List Listed → List Listed
wanted parents list = filter (is_wanted parents list) (firsts same_listed parents)

-- one of two sets of keys has a parent's, and the other hasn't
abbrev pub is_chosen : List (List ℕ) → List (List ℕ) → Listed → Bool
is_chosen twice listed parent = has_lowered parent.key twice && not (has_lowered parent.key listed)

-- those of these parents, in the order in which they are first named
abbrev pub chosen_of : List (List ℕ) → List (List ℕ) → List Listed → List Listed
chosen_of twice listed parents = filter (is_chosen twice listed) (firsts same_listed parents)

-- the parents that are appended to a list
abbrev pub appended : List RawEntry → List Listed → List Listed
appended entries list = wanted (parents_of entries list) list

-- the cited entries, and then the parents that are appended
abbrev pub whole_list : List AuxItem → List RawEntry → List Listed
whole_list items entries = cited_list items entries ++ appended entries (cited_list items entries)
