-- The names that a case binds (docs/ANALYSER.md, "Loops"): global variables, and what an entry has.
use Rattle.std.specs.Prelude.{Bool, true, false, ◌||◌}
use Rattle.name_table.specs.declared.names.Kind.{Kind}
use Rattle.name_table.specs.declared.names.Kind.TheVariants.{Field, IntEntry, IntGlobal, StrEntry, StrGlobal}
use Rattle.loop_templates.specs.declared.cases.Bound.{Bound}

-- a variable that a case binds
abbrev pub is_bound_variable : Bound → Kind → Bool
is_bound_variable bound IntGlobal = bound.globals
is_bound_variable bound StrGlobal = bound.globals
is_bound_variable bound IntEntry = bound.entry
is_bound_variable bound StrEntry = bound.entry
is_bound_variable bound _ = false

-- a field that it binds
abbrev pub is_bound_field : Bound → Kind → Bool
is_bound_field bound Field = bound.entry
is_bound_field bound _ = false

-- either of them
abbrev pub is_bound : Bound → Kind → Bool
is_bound bound kind = is_bound_variable bound kind || is_bound_field bound kind

-- all names that have a value are bound
abbrev pub all_bound : Bool → Bound
all_bound at_entry = record { globals = true; entry = at_entry }
