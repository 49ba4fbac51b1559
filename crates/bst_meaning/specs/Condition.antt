-- Entry lists that meet a condition (docs/MACHINE.md, "Conditions"): a sentence for each line of it.
use Rattle.std.specs.Prelude.{◌≡◌, ℕ, ◌≤◌, true, not, nat_eq, List, None, length, Contains, IsSome, ◌⊎◌}
use Rattle.std.specs.List.{list_any, AllByRecursion}
use Rattle.std.specs.Option.{ForSome}
use Rattle.bv_base.specs.Bytes.{is_white}
use Rattle.name_table.specs.declared.names.NameId.{NameId}
use Rattle.name_table.specs.declared.style.Style.{Style}
use Rattle.name_table.specs.TypeTarget.{type_function}
use Rattle.bst_meaning.specs.FieldValues.{FieldValue}
use Rattle.bst_meaning.specs.EntryLists.{Entry, EntryList}
use Rattle.bst_meaning.specs.declared.condition.NamesLine.{NamesLine}
use Rattle.bst_meaning.specs.declared.condition.Cond.{Cond}
use Rattle.name_split.specs.Names.{names_of}
use Rattle.name_split.specs.AllParts.{names_ok}

-- the string has a byte that isn't white space
abbrev pub HasInk : List ℕ → Type 0
HasInk bytes = list_any (λ b. not (is_white b)) bytes ≡ true

-- where this is the field, it is there and has such a byte
abbrev pub FieldIsNonblank : NameId → FieldValue → Type 0
FieldIsNonblank name field = nat_eq field.name.0 name.0 ≡ true → IsSome field.value × ForSome field.value HasInk

-- where this is the field of the line and it is there, it has at most so many names, and each is well formed
abbrev pub FieldHasNames : NamesLine → FieldValue → Type 0
FieldHasNames line field = nat_eq field.name.0 line.field.0 ≡ true
    → ForSome field.value (λ text. (length (names_of text) ≤ line.most) × (names_ok text ≡ true))

-- the type is listed, or the style doesn't define it and other types are let in
abbrev pub TypeIsAdmitted : Style → Cond → List ℕ → Type 0
TypeIsAdmitted style cond type = Contains cond.types type ⊎ ((type_function type style ≡ None) × (cond.other ≡ true))

-- one entry keeps the lines on entries
pub record EntryMeets (style : Style) (cond : Cond) (entry : Entry) : Type 0 where
  pub key : length entry.key ≤ cond.key
  pub length : AllByRecursion (λ field. ForSome field.value (λ bytes. length bytes ≤ cond.length)) entry.fields
  pub names : AllByRecursion (λ line. AllByRecursion (FieldHasNames line) entry.fields) cond.names
  pub nonblank : AllByRecursion (λ name. AllByRecursion (FieldIsNonblank name) entry.fields) cond.nonblank
  pub types : TypeIsAdmitted style cond entry.entry_type

-- a list meets a condition
pub record Meets (style : Style) (cond : Cond) (list : EntryList) : Type 0 where
  pub entries : length list.entries ≤ cond.entries
  pub preamble : length list.preamble ≤ cond.preamble
  pub each : AllByRecursion (EntryMeets style cond) list.entries
