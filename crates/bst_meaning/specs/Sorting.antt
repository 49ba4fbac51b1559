-- SORT: the entries by the bytes of `sort.key$`, where equal keys keep their order (docs/MACHINE.md, "Steps").
use Rattle.std.specs.Prelude.{ℕ, nat_eq, if◌then◌else◌, List, [], ◌∷◌}
use Rattle.std.specs.Ordering.{nat_cmp, is_le}
use Rattle.std.specs.Cmp.Lexicographic.{slice_cmp}
use Rattle.name_table.specs.Opening.{sort_key as key_name}
use Rattle.bst_meaning.specs.declared.value.Value.{Value}
use Rattle.bst_meaning.specs.declared.value.Value.TheVariants.{Str}
use Rattle.bst_meaning.specs.Config.{EntryState, Variable}

-- the bytes of a string
abbrev pub string_of : Value → List ℕ
string_of (Str bytes) = bytes
string_of _ = []

-- the string of the variable with this id
abbrev pub string_at : ℕ → List Variable → List ℕ
string_at id [] = []
string_at id (variable ∷ variables) = if nat_eq variable.name.0 id then string_of variable.value else string_at id variables

-- the bytes of `sort.key$`
abbrev pub sort_key : EntryState → List ℕ
sort_key entry = string_at key_name.0 entry.variables

-- before the first entry whose key isn't below its own
abbrev pub inserted : EntryState → List EntryState → List EntryState
inserted entry [] = entry ∷ []
inserted entry (first ∷ entries) =
    if is_le (slice_cmp nat_cmp (sort_key entry) (sort_key first)) then entry ∷ first ∷ entries else first ∷ inserted entry entries

-- entries in the order of their sort keys
abbrev pub sorted : List EntryState → List EntryState
sorted [] = []
sorted (entry ∷ entries) = inserted entry (sorted entries)
