-- The entries that are cited, and citations without an entry (docs/DATA.md, "The list of entries").
use Rattle.std.specs.Prelude.{ℕ, Bool, true, false, not, if◌then◌else◌, List, [], ◌∷◌, map, filter, flat_map, is_some}
use Rattle.std.specs.List.{list_any}
use Rattle.std.specs.Option.{option_map, option_to_list}
use Rattle.aux_read.specs.declared.aux.AuxItem.{AuxItem}
use Rattle.aux_read.specs.declared.aux.AuxItem.TheVariants.{Cite, All, Input}
use Rattle.bib_read.specs.RawEntries.{RawEntry}
use Rattle.entry_list.specs.Keys.{Listed, own, same_key, entry_of, firsts}
use Rattle.entry_list.specs.Warnings.{no_entry}

-- a request for the entry with this key
abbrev pub cites : List ℕ → AuxItem → Bool
cites key (Cite cited) = same_key key cited
cites key _ = false

-- a request for all entries
abbrev pub is_all : AuxItem → Bool
is_all All = true
is_all _ = false

-- two requests ask for the same: for the entry with one key, or both for all entries
abbrev pub asks_same : AuxItem → AuxItem → Bool
asks_same (Cite key) item = cites key item
asks_same All item = is_all item
asks_same (Input _ _) item = false

-- some citation names this key
abbrev pub is_cited : List ℕ → List AuxItem → Bool
is_cited key items = list_any (cites key) items

-- the entries that no citation names, in the order of the databases
abbrev pub uncited : List AuxItem → List RawEntry → List Listed
uncited items entries = map own (filter (λ entry. not (is_cited entry.key items)) entries)

-- an entry under the key of its citation
abbrev pub cited_as : List ℕ → RawEntry → Listed
cited_as key entry = record { key = key; entry = entry }

-- what a request puts into the list, among these requests
abbrev pub asked_for : List AuxItem → List RawEntry → AuxItem → List Listed
asked_for items entries (Cite key) = option_to_list (option_map (cited_as key) (entry_of key entries))
asked_for items entries All = uncited items entries
asked_for items entries (Input _ _) = []

-- the entries that are cited, each at its first citation
abbrev pub cited_list : List AuxItem → List RawEntry → List Listed
cited_list items entries = flat_map (asked_for items entries) (firsts asks_same items)

-- the warning of a citation without an entry
abbrev pub not_found : List RawEntry → AuxItem → List (List ℕ)
not_found entries (Cite key) = if is_some (entry_of key entries) then [] else no_entry key ∷ []
not_found entries _ = []

-- the warnings of the citations without an entry, each at its first citation
abbrev pub no_entries : List AuxItem → List RawEntry → List (List ℕ)
no_entries items entries = flat_map (not_found entries) (firsts asks_same items)
