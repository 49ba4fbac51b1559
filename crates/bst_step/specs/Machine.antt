-- What is seen of a machine (docs/MACHINE.md): the configuration of its run with the marks of its values, whether memory was wanting,
-- and for how many steps there is room.
use Rattle.std.specs.Prelude.{ℕ, Bool, true, false, nat_eq, if◌then◌else◌, List, [], ◌∷◌, ◌++◌, map, Option, None, Some, IsPermutation, slice_get}
use Rattle.std.specs.Option.{option_map_or}
use Rattle.std.specs.List.{flat_map}
use Rattle.name_table.specs.declared.style.CommandAt.{CommandAt}
use Rattle.name_table.specs.declared.style.Style.{Style}
use Rattle.bst_meaning.specs.EntryLists.{EntryList}
use Rattle.bst_meaning.specs.Config.{Config, Event, Frame, EntryState, Stopped}
use Rattle.bst_meaning.specs.Keeping.{placed}
use Rattle.bst_step.specs.declared.machine.Turn.{Turn}
use Rattle.bst_step.specs.declared.machine.Turn.TheVariants.{Went, Ended, Faulted}
use Rattle.bst_step.specs.declared.state.State.{State}
use Rattle.bst_step.specs.Marks.{Marks, lent_at}
use Rattle.bst_step.specs.State.{config_of}

-- the configuration of its run and the marks of its values, its style, whether memory was wanting in a step, and for how many steps there
-- is room
pub record Standing : Type 0 where
  pub config : Config
  pub marks : Marks
  pub style : Style
  pub broken : Bool
  pub spare : ℕ

-- what is seen over a state
abbrev pub standing_of : Style → State → Bool → ℕ → Standing
standing_of style state broken spare = record { config = config_of state; marks = state.values.marks; style = style; broken = broken; spare = spare }

-- the configuration of its run
abbrev pub configuration : Standing → Config
configuration m = m.config

-- the marks of its values
abbrev pub marks_of : Standing → Marks
marks_of m = m.marks

-- its style
abbrev pub style_of : Standing → Style
style_of m = m.style

-- memory was wanting in a step
abbrev pub is_broken : Standing → Bool
is_broken m = m.broken

-- for so many steps there is room
abbrev pub spare_of : Standing → ℕ
spare_of m = m.spare

-- the same with its events taken out
abbrev pub without_events : Standing → Standing
without_events m = record m { config = record m.config { events = [] } }

-- a configuration with these events before its own
abbrev pub behind : List Event → Config → Config
behind events c = record c { events = events ++ c.events }

-- what a configuration comes to: an execution error, the end where no command is left, or more steps
abbrev pub turn_by : Option Stopped → List CommandAt → Turn
turn_by (Some stopped) commands = Faulted stopped.fault (record { place = stopped.site.place; entry = stopped.site.entry })
turn_by None [] = Ended
turn_by None (first ∷ commands) = Went

-- what a configuration comes to
abbrev pub turn_of : Config → Turn
turn_of c = turn_by c.stopped c.commands

-- no step changes anything any more
abbrev pub rests : Option Stopped → List Frame → List CommandAt → Bool
rests (Some stopped) frames commands = true
rests None [] [] = true
rests _ _ _ = false

-- no step changes anything any more
abbrev pub at_rest : Config → Bool
at_rest c = rests c.stopped c.frames c.commands

-- the lines of the log, each with its line end
abbrev pub log_of : Config → List ℕ
log_of c = flat_map (λ line. line ++ 10 ∷ []) c.log

-- the key of the entry with a position in the list with which the run opened, and no bytes where there is none
abbrev pub key_at : ℕ → List EntryState → List ℕ
key_at position [] = []
key_at position (first ∷ entries) = if nat_eq first.position position then first.entry.key else key_at position entries

-- the key of the entry at a position of a list, and no bytes where there is none
abbrev pub key_of : ℕ → EntryList → List ℕ
key_of position list = option_map_or (λ e. e.key) (slice_get list.entries position) []

-- the bytes of the string at a depth of the literal stack, where they are lent and memory wasn't wanting
abbrev pub lent_in : ℕ → Standing → Option (List ℕ)
lent_in depth m = if m.broken then None else lent_at depth m.marks.stack m.config.stack

-- a configuration has the entries of another with their positions, in some order
abbrev pub HasEntriesOf : Config → Config → Type 0
HasEntriesOf old new = IsPermutation (map placed old.entries) (map placed new.entries)
