-- The marks of values (docs/MACHINE.md, "Lent and made strings"): whether the bytes of a string are lent, or were made by the machine.
use Rattle.std.specs.Prelude.{◌≡◌, ℕ, zero, suc, if◌then◌else◌, List, [], ◌∷◌, drop, map, slice_get, slice_set, Option, None, Some}
use Rattle.std.specs.Ordering.{nat_cmp, is_le}
use Rattle.std.specs.Cmp.Lexicographic.{slice_cmp}
use Rattle.std.specs.Option.{option_map_or}
use Rattle.name_table.specs.declared.names.NameId.{NameId}
use Rattle.bst_meaning.specs.declared.value.Value.{Value}
use Rattle.bst_meaning.specs.declared.value.Value.TheVariants.{Str}
use Rattle.bst_meaning.specs.Config.{Config, EntryState, Variable}
use Rattle.bst_meaning.specs.Sorting.{sort_key, sorted}
use Rattle.bst_step.specs.ById.{replaced_by_id, seen_by_id}
use Rattle.bst_step.specs.declared.held.Held.{Held}
use Rattle.bst_step.specs.declared.held.Held.TheVariants as held
use Rattle.bst_step.specs.declared.variables.Variable.{Variable as HeldVariable}
use Rattle.bst_step.specs.EntryStates.{EntryState as HeldState, state_in}
use Rattle.bst_step.specs.Stack as pile
use Rattle.bst_step.specs.Variables.{variable_in}

-- a string is lent or was made, and no other value has a mark
pub data Mark : Type 0 where
  NoString : Mark
  Lent : Mark
  Made : Mark

-- the name of a variable, with the mark of its value
pub record Marked : Type 0 where
  pub name : NameId
  pub mark : Mark

-- the marks of the literal stack, its top first, of the variables of the whole style, and of those of each entry
pub record Marks : Type 0 where
  pub stack : List Mark
  pub globals : List Marked
  pub entries : List (List Marked)

-- a value none of whose bytes was made
abbrev pub lent_mark : Value → Mark
lent_mark (Str bytes) = Lent
lent_mark _ = NoString

-- a variable none of whose bytes was made
abbrev pub lent_marked : Variable → Marked
lent_marked v = record { name = v.name; mark = lent_mark v.value }

-- the variables of an entry none of whose bytes was made
abbrev pub lent_marked_in : EntryState → List Marked
lent_marked_in e = map lent_marked e.variables

-- the marks of a configuration none of whose bytes was made
abbrev pub lent_marks : Config → Marks
lent_marks c = record {
  stack = map lent_mark c.stack;
  globals = map lent_marked c.globals;
  entries = map lent_marked_in c.entries;
}

-- the mark of a value as it is held
abbrev pub mark_of : Held → Mark
mark_of (held.Str bytes) = Lent
mark_of held.Empty = Lent
mark_of (held.Made start count) = Made
mark_of _ = NoString

-- a variable as it is held
abbrev pub marked_of : HeldVariable → Marked
marked_of v = record { name = v.name; mark = mark_of v.value }

-- the variables of an entry as they are held
abbrev pub marked_in : HeldState → List Marked
marked_in e = map marked_of e.variables

-- no string of variables was made
abbrev pub AreLent : List HeldVariable → Type 0
AreLent variables = map marked_of variables ≡ map lent_marked (map (variable_in []) variables)

-- no string of variables of entries was made
abbrev pub AreLentIn : List HeldState → Type 0
AreLentIn entries = map marked_in entries ≡ map lent_marked_in (map (state_in []) entries)

-- the marks of all that is held
abbrev pub marks_in : List Held → List HeldVariable → List HeldState → Marks
marks_in stack globals entries = record {
  stack = map mark_of stack;
  globals = map marked_of globals;
  entries = map marked_in entries;
}

-- a value is pushed
abbrev pub pushed : Mark → Marks → Marks
pushed mark m = record m { stack = mark ∷ m.stack }

-- values are taken away
abbrev pub taken : ℕ → Marks → Marks
taken count m = record m { stack = drop count m.stack }

-- a result stands in the place of its operands
abbrev pub resulting : ℕ → Mark → Marks → Marks
resulting operands mark m = record m { stack = mark ∷ drop operands m.stack }

-- the top once more
abbrev pub doubled : Marks → Marks
doubled m = record m { stack = pile.doubled m.stack }

-- the two topmost values are exchanged
abbrev pub swapped : Marks → Marks
swapped m = record m { stack = pile.swapped m.stack }

-- all values are taken away
abbrev pub cleared : Marks → Marks
cleared m = record m { stack = [] }

-- the mark of the variable with this id
abbrev pub mark_at : ℕ → List Marked → Option Mark
mark_at id variables = seen_by_id (λ (v : Marked). v.name) (λ (v : Marked). v.mark) id variables

-- variables of which one has another value
abbrev pub with_marked : Marked → List Marked → List Marked
with_marked new variables = replaced_by_id (λ (v : Marked). v.name) new variables

-- entries of which one has a variable with another value
abbrev pub with_entry_marked : Marked → Option ℕ → List (List Marked) → List (List Marked)
with_entry_marked new None entries = entries
with_entry_marked new (Some at) entries =
    option_map_or (λ variables. slice_set entries at (with_marked new variables)) (slice_get entries at) entries

-- the variable whose value a name pushes, where there is one
abbrev pub found : Option Mark → Marks → Marks
found None m = m
found (Some mark) m = pushed mark m

-- the top is taken off, and given to a variable of the whole style
abbrev pub given_globally : NameId → List Mark → Marks → Marks
given_globally name [] m = m
given_globally name (mark ∷ stack) m =
    record m { stack = stack; globals = with_marked (record { name = name; mark = mark }) m.globals }

-- the top is taken off, and given to a variable of the entry at a place
abbrev pub given_in_entry : NameId → Option ℕ → List Mark → Marks → Marks
given_in_entry name at [] m = m
given_in_entry name at (mark ∷ stack) m =
    record m { stack = stack; entries = with_entry_marked (record { name = name; mark = mark }) at m.entries }

-- an entry's variables are put where SORT puts the entry
abbrev pub inserted_marks : EntryState → List Marked → List EntryState → List (List Marked) → List (List Marked)
inserted_marks entry own (first ∷ entries) (marks ∷ later) =
    if is_le (slice_cmp nat_cmp (sort_key entry) (sort_key first)) then own ∷ marks ∷ later else marks ∷ inserted_marks entry own entries later
inserted_marks entry own _ _ = own ∷ []

-- SORT: the variables of each entry go with it
abbrev pub sorted_marks : List EntryState → List (List Marked) → List (List Marked)
sorted_marks (entry ∷ entries) (own ∷ later) = inserted_marks entry own (sorted entries) (sorted_marks entries later)
sorted_marks _ _ = []

-- the bytes of a value of a mark, where they are lent
abbrev pub lent_bytes : Mark → Value → Option (List ℕ)
lent_bytes Lent (Str bytes) = Some bytes
lent_bytes _ _ = None

-- the bytes of the string at a depth of the stack, where they are lent
abbrev pub lent_at : ℕ → List Mark → List Value → Option (List ℕ)
lent_at zero (mark ∷ marks) (value ∷ values) = lent_bytes mark value
lent_at (suc depth) (mark ∷ marks) (value ∷ values) = lent_at depth marks values
lent_at depth _ _ = None
