-- What holds of every joined list (docs/DATA.md, "The list of entries").
use Rattle.std.specs.Prelude.{◌≡◌, false, List, [], ◌∷◌, Some}
use Rattle.bib_read.specs.RawEntries.{RawEntry}
use Rattle.entry_list.specs.Keys.{Listed, entry_of, is_listed}

-- an entry of the list is the one that the databases have under its key
abbrev pub IsFrom : List RawEntry → Listed → Type 0
IsFrom entries listed = entry_of listed.key entries ≡ Some listed.entry

-- no two entries of the list have one key
abbrev pub AreApart : List Listed → Type 0
AreApart [] = Unit {0}
AreApart (first ∷ rest) = (is_listed first.key rest ≡ false) × AreApart rest
