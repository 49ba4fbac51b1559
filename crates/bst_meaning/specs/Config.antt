-- A configuration of the machine (docs/MACHINE.md, "Configurations"), and the one in which a run opens.
use Rattle.std.specs.Prelude.{ℕ, ◌+◌, ℤ, pos, Bool, true, false, List, [], ◌∷◌, Option, None, nat_eq, if◌then◌else◌, filter}
use Rattle.bv_base.specs.declared.place.Place.{Place}
use Rattle.name_table.specs.declared.names.NameId.{NameId}
use Rattle.name_table.specs.declared.names.Kind.{Kind}
use Rattle.name_table.specs.declared.names.Kind.TheVariants.{IntEntry, StrEntry, IntGlobal, StrGlobal}
use Rattle.name_table.specs.declared.style.TokenAt.{TokenAt}
use Rattle.name_table.specs.declared.style.Command.{Command}
use Rattle.name_table.specs.declared.style.Command.TheVariants.{Execute, Iterate, Read, Reverse, Sort}
use Rattle.name_table.specs.declared.style.CommandAt.{CommandAt}
use Rattle.name_table.specs.declared.style.Style.{Style}
use Rattle.name_table.specs.Opening.{entry_max, global_max}
use Rattle.bst_meaning.specs.declared.value.TheConstants.{ENTRY_SIZE, GLOBAL_SIZE}
use Rattle.bst_meaning.specs.declared.value.Target.{Target}
use Rattle.bst_meaning.specs.declared.value.Value.{Value}
use Rattle.bst_meaning.specs.declared.value.Value.TheVariants.{Int, Str}
use Rattle.bst_meaning.specs.EntryLists.{Entry, EntryList}
use Rattle.bst_meaning.specs.declared.fault.Fault.{Fault}

-- the part of a `while$` that a frame runs, with its two functions
pub data Part : Type 0 where
  Whole : Part
  Testing : (test body : Target) → Part
  Turning : (test body : Target) → Part

-- what is left of a body that was entered, and where it was entered
pub record Frame : Type 0 where
  pub tokens : List TokenAt
  pub place : Place
  pub part : Part

-- a variable with its value
pub record Variable : Type 0 where
  pub name : NameId
  pub value : Value

-- an entry with its entry variables, and its position in the list with which the run opened, counted from 0
pub record EntryState : Type 0 where
  pub entry : Entry
  pub variables : List Variable
  pub position : ℕ

-- how far ITERATE or REVERSE has come: which way it goes, and how many entries it has visited
pub record Visit : Type 0 where
  pub backwards : Bool
  pub visited : ℕ

-- what was written
pub data Event : Type 0 where
  Wrote : (bytes : List ℕ) → Event
  EndedLine : Event

-- where a fault stands: its place in the style, and the visited entry's position, if one is visited
pub record Site : Type 0 where
  pub place : Place
  pub entry : Option ℕ

-- an execution error, and where it has come
pub record Stopped : Type 0 where
  pub fault : Fault
  pub site : Site

-- a configuration of the machine
pub record Config : Type 0 where
  pub preamble : List ℕ
  -- the commands left, and whether a call of the first of them runs
  pub commands : List CommandAt
  pub running : Bool
  -- the innermost frame first
  pub frames : List Frame
  -- the literal stack, its top first
  pub stack : List Value
  pub globals : List Variable
  pub entries : List EntryState
  pub visit : Option Visit
  -- in the order in which they came
  pub events : List Event
  pub log : List (List ℕ)
  -- where an execution error has stopped the machine
  pub stopped : Option Stopped

-- declarations take no step
abbrev pub is_step : Command → Bool
is_step (Execute name) = true
is_step (Iterate name) = true
is_step Read = true
is_step (Reverse name) = true
is_step Sort = true
is_step _ = false

-- entry.max$ and global.max$ open with the sizes that they name, every other integer with 0
abbrev pub opening_integer : ℕ → ℤ
opening_integer id = if nat_eq id entry_max.0 then pos ENTRY_SIZE else (if nat_eq id global_max.0 then pos GLOBAL_SIZE else pos 0)

-- the variable of the whole style that a name declares, as it opens
abbrev pub opening_global : ℕ → Kind → List Variable → List Variable
opening_global id IntGlobal later = record { name = record { 0 = id }; value = Int (opening_integer id) } ∷ later
opening_global id StrGlobal later = record { name = record { 0 = id }; value = Str [] } ∷ later
opening_global id _ later = later

-- the variable of each entry that a name declares, as it opens
abbrev pub opening_entry_variable : ℕ → Kind → List Variable → List Variable
opening_entry_variable id IntEntry later = record { name = record { 0 = id }; value = Int (pos 0) } ∷ later
opening_entry_variable id StrEntry later = record { name = record { 0 = id }; value = Str [] } ∷ later
opening_entry_variable id _ later = later

-- the variables of one sort among these names, which are numbered from here
abbrev pub opening_variables : (ℕ → Kind → List Variable → List Variable) → ℕ → List (List ℕ × Kind) → List Variable
opening_variables variable id [] = []
opening_variables variable id (name ∷ names) = variable id name.1 (opening_variables variable (id + 1) names)

-- the entries in order, each with its variables and its position
abbrev pub opening_entries : List Variable → ℕ → List Entry → List EntryState
opening_entries variables position [] = []
opening_entries variables position (entry ∷ entries) =
    record { entry = entry; variables = variables; position = position }
    ∷ opening_entries variables (position + 1) entries

-- the configuration in which a run of the style over the list opens
abbrev pub opening : Style → EntryList → Config
opening style list = record {
  preamble = list.preamble;
  commands = filter (λ c. is_step c.command) style.commands;
  running = false;
  frames = [];
  stack = [];
  globals = opening_variables opening_global 0 style.names;
  entries = opening_entries (opening_variables opening_entry_variable 0 style.names) 0 list.entries;
  visit = None;
  events = [];
  log = [];
  stopped = None;
}
