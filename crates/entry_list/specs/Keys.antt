-- Keys as they are compared, and entries by their keys (docs/DATA.md, "The list of entries").
use Rattle.std.specs.Prelude.{ℕ, Bool, true, false, not, List, [], ◌∷◌, Option, filter}
use Rattle.std.specs.List.{list_any, AllByRecursion}
use Rattle.bv_base.specs.Keys.{IsKey}
use Rattle.name_table.specs.Names.{same_name, lowered}
use Rattle.aux_read.specs.declared.aux.AuxItem.{AuxItem}
use Rattle.aux_read.specs.declared.aux.AuxItem.TheVariants.{Cite, All, Input}
use Rattle.bib_read.specs.RawEntries.{RawEntry}
use Rattle.bib_read.specs.Names.{entry_under}

-- two keys are equal once both are lowered
abbrev pub same_key : List ℕ → List ℕ → Bool
same_key a b = same_name (lowered a) (lowered b)

-- the entry with this key
abbrev pub entry_of : List ℕ → List RawEntry → Option RawEntry
entry_of key entries = entry_under (lowered key) entries

-- an entry of the list: its key there, and the entry of the databases
pub record Listed : Type 0 where
  pub key : List ℕ
  pub entry : RawEntry

-- an entry of the databases under its own key
abbrev pub own : RawEntry → Listed
own entry = record { key = entry.key; entry = entry }

-- an entry of the list has this key
abbrev pub is_listed : List ℕ → List Listed → Bool
is_listed key list = list_any (λ listed. same_key key listed.key) list

-- the first of each kind: what is left out is the same as one that stands before it
abbrev pub firsts : {X : Type 0} → (X → X → Bool) → List X → List X
firsts same [] = []
firsts same (x ∷ xs) = x ∷ filter (λ later. not (same later x)) (firsts same xs)

-- a request for all entries, or for the entry with a key
abbrev pub IsCitation : AuxItem → Type 0
IsCitation (Cite key) = IsKey key
IsCitation All = Unit {0}
IsCitation (Input _ _) = ⊥

-- a request for no further file
abbrev pub is_no_input : AuxItem → Bool
is_no_input (Input _ _) = false
is_no_input _ = true

-- no request is for a further file, and each key has a byte and no white space
abbrev pub AreCitations : List AuxItem → Type 0
AreCitations items = AllByRecursion IsCitation items
