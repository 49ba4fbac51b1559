-- The first line of a condition that an entry list doesn't keep (docs/MACHINE.md, "Conditions"). Lines are numbered from 0, as a
-- condition is printed: four numbers, then those on names, on nonblank fields and on types, and at last the one on other types.
use Rattle.std.specs.Prelude.{ℕ, ◌+◌, Bool, true, false, ◌&&◌, ◌||◌, not, nat_eq, nat_le, if◌then◌else◌, List, [], ◌∷◌, length, Option, None, Some, is_none}
use Rattle.std.specs.List.{list_all, list_any}
use Rattle.std.specs.Option.{option_map_or, option_or}
use Rattle.bv_base.specs.Bytes.{is_white}
use Rattle.bv_base.specs.KeySets.{has_key}
use Rattle.name_table.specs.TypeTarget.{type_function}
use Rattle.name_table.specs.declared.names.NameId.{NameId}
use Rattle.name_table.specs.declared.style.Style.{Style}
use Rattle.name_split.specs.AllParts.{names_ok}
use Rattle.name_split.specs.Names.{names_of}
use Rattle.bst_meaning.specs.declared.condition.Cond.{Cond}
use Rattle.bst_meaning.specs.declared.condition.NamesLine.{NamesLine}
use Rattle.bst_meaning.specs.EntryLists.{Entry, EntryList}
use Rattle.bst_meaning.specs.FieldValues.{FieldValue}
use Rattle.cond_eval.specs.declared.eval.Wanted.{Wanted}
use Rattle.cond_eval.specs.declared.eval.Wanted.TheVariants.{Ink, Length, Names}
use Rattle.cond_eval.specs.declared.unmet.Unmet.{Unmet}

-- each field that is there has at most so many bytes
abbrev pub is_short : Cond → FieldValue → Bool
is_short cond field = option_map_or (λ bytes. nat_le (length bytes) cond.length) field.value true

-- a text has at most so many names, and each is well formed
abbrev pub has_names : NamesLine → List ℕ → Bool
has_names line text = nat_le (length (names_of text)) line.most && names_ok text

-- where this is the field of the line and it is there, it has such names
abbrev pub keeps_names : NamesLine → FieldValue → Bool
keeps_names line field = not (nat_eq field.name.0 line.field.0) || option_map_or (has_names line) field.value true

-- a byte isn't white space
abbrev pub has_ink : List ℕ → Bool
has_ink bytes = list_any (λ b. not (is_white b)) bytes

-- where this is the field, it is there and has such a byte
abbrev pub keeps_ink : NameId → FieldValue → Bool
keeps_ink name field = not (nat_eq field.name.0 name.0) || option_map_or has_ink field.value false

-- a field is as it is wanted
abbrev pub keeps : Wanted → FieldValue → Bool
keeps (Length most) field = option_map_or (λ bytes. nat_le (length bytes) most) field.value true
keeps (Names line) field = keeps_names line field
keeps (Ink name) field = keeps_ink name field

-- the style doesn't define it
abbrev pub is_other : Style → List ℕ → Bool
is_other style type = is_none (type_function type style)

-- a type is listed, or the style doesn't define it and other types are let in
abbrev pub is_admitted : Style → Cond → List ℕ → Bool
is_admitted style cond type = has_key type cond.types || (is_other style type && cond.other)

-- what comes next where a line is kept, and else its number
abbrev pub kept_or : Bool → ℕ → Option ℕ → Option ℕ
kept_or true line next = next
kept_or false line next = Some line

-- the first of the lines from this number on that the fields of an entry don't all keep
abbrev pub first_of : {L : Type 0} → (L → FieldValue → Bool) → List FieldValue → ℕ → List L → Option ℕ
first_of keeps fields at [] = None
first_of keeps fields at (line ∷ lines) = kept_or (list_all (keeps line) fields) at (first_of keeps fields (at + 1) lines)

-- the line on other types, which is the last
abbrev pub last_line : Cond → ℕ
last_line cond = 4 + length cond.names + length cond.nonblank + length cond.types

-- an entry's type is admitted, or the last line isn't kept
abbrev pub type_unmet : Style → Cond → Entry → Option ℕ
type_unmet style cond entry = kept_or (is_admitted style cond entry.entry_type) (last_line cond) None

-- the first line on a field's names, on its ink or on types that an entry doesn't keep
abbrev pub listed_unmet : Style → Cond → Entry → Option ℕ
listed_unmet style cond entry =
    option_or (first_of keeps_names entry.fields 4 cond.names)
    (option_or (first_of keeps_ink entry.fields (4 + length cond.names) cond.nonblank) (type_unmet style cond entry))

-- the first line that an entry doesn't keep
abbrev pub entry_unmet : Style → Cond → Entry → Option ℕ
entry_unmet style cond entry =
    kept_or (nat_le (length entry.key) cond.key) 1
    (kept_or (list_all (is_short cond) entry.fields) 3 (listed_unmet style cond entry))

-- the first entry that doesn't keep one, by its number, with that line
abbrev pub entries_unmet : Style → Cond → ℕ → List Entry → Option Unmet
entries_unmet style cond at [] = None
entries_unmet style cond at (entry ∷ entries) =
    option_map_or (λ line. Some (record { entry = Some at; line = line })) (entry_unmet style cond entry) (entries_unmet style cond (at + 1) entries)

-- the lines on the whole list come first
abbrev pub first_unmet : Style → Cond → EntryList → Option Unmet
first_unmet style cond list =
    if nat_le (length list.entries) cond.entries
    then (if nat_le (length list.preamble) cond.preamble
    then entries_unmet style cond 0 list.entries
    else Some (record { entry = None; line = 2 }))
    else Some (record { entry = None; line = 0 })
