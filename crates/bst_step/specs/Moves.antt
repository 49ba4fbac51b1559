-- The parts of an effect, each as a change of the configuration.
use Rattle.std.specs.Prelude.{ℕ, Bool, true, false, List, [], ◌∷◌, ◌++◌, drop, slice_get, Option, None, Some, option_map}
use Rattle.std.specs.Option.{option_and_then}
use Rattle.bv_base.specs.declared.place.Place.{Place}
use Rattle.name_table.specs.declared.names.Kind.{Kind}
use Rattle.name_table.specs.declared.names.Kind.TheVariants.{IntEntry, StrEntry}
use Rattle.name_table.specs.declared.names.NameId.{NameId}
use Rattle.name_table.specs.declared.style.Style.{Style}
use Rattle.bst_meaning.specs.declared.value.Value.{Value}
use Rattle.bst_meaning.specs.Config.{Config}
use Rattle.bst_meaning.specs.Machine.{assigned_by, with_assigned, with_entry_variable, with_found, visited_entry, visited_index, value_at, field_in}
use Rattle.bst_step.specs.Held.{part_from}

-- the literal stack is this one
abbrev pub with_stack : List Value → Config → Config
with_stack stack c = record c { stack = stack }

-- these lines are logged
abbrev pub with_log : List (List ℕ) → Config → Config
with_log lines c = record c { log = c.log ++ lines }

-- a name of this kind is a variable of an entry
abbrev pub is_of_entry : Option Kind → Bool
is_of_entry (Some IntEntry) = true
is_of_entry (Some StrEntry) = true
is_of_entry _ = false

-- the value on top of the stack is taken off, and assigned to a variable of the visited entry
abbrev pub with_entry_assigned : NameId → List Value → Config → Config
with_entry_assigned name [] c = c
with_entry_assigned name (value ∷ stack) c =
    record c { stack = stack; entries = with_entry_variable (record { name = name; value = value }) (visited_index c) c.entries }

-- the value on top of the stack is taken off, and assigned by the kind of the variable's name
abbrev pub with_top_assigned : Option Kind → NameId → List Value → Config → Config
with_top_assigned kind name [] c = c
with_top_assigned kind name (value ∷ stack) c = assigned_by kind (record { name = name; value = value }) (with_stack stack c)

-- a value that may not be there is assigned to a variable
abbrev pub with_second : Style → NameId → Option Value → Config → Config
with_second style name None c = c
with_second style name (Some value) c = with_assigned style (Some (record { name = name; value = value })) c

-- the second value of a stack is assigned, and both are taken away
abbrev pub with_second_assigned : Style → NameId → List Value → Config → Config
with_second_assigned style name stack c = with_second style name (slice_get stack 1) (with_stack (drop 2 stack) c)

-- the same of so many bytes of a string
abbrev pub with_second_cut : Style → NameId → ℕ → List Value → Config → Config
with_second_cut style name size stack c =
    with_second style name (option_map (part_from 0 size) (slice_get stack 1)) (with_stack (drop 2 stack) c)

-- a field of the visited entry is pushed, or a variable of it, or one of the whole style
abbrev pub with_field : NameId → Place → Config → Config
with_field name place c = with_found (option_map (λ e. field_in name e.entry.fields) (visited_entry c)) place c

-- a variable of the visited entry is pushed
abbrev pub with_entry_value : NameId → Place → Config → Config
with_entry_value name place c = with_found (option_and_then (λ e. value_at name.0 e.variables) (visited_entry c)) place c

-- a variable of the whole style is pushed
abbrev pub with_global : NameId → Place → Config → Config
with_global name place c = with_found (value_at name.0 c.globals) place c
