-- The machine's state as a configuration of the machine's definition (docs/MACHINE.md, "Configurations").
use Rattle.std.specs.Prelude.{ℕ, ◌+◌, ◌≤◌, List, Option, None, Some, filter, map, option_map}
use Rattle.bst_meaning.specs.Config as config
use Rattle.bst_step.specs.declared.state.Visit.{Visit}
use Rattle.bst_step.specs.declared.state.Site.{Site}
use Rattle.bst_step.specs.declared.state.Stopped.{Stopped}
use Rattle.bst_step.specs.declared.state.State.{State}
use Rattle.bst_step.specs.Frames.{frame_of}

-- a visit of the entries
abbrev pub visit_in : Visit → config.Visit
visit_in v = record { backwards = v.backwards; visited = v.visited }

-- what was written, where the end of a line is no text
abbrev pub event_of : Option (List ℕ) → config.Event
event_of (Some text) = config.Wrote text
event_of None = config.EndedLine

-- where a fault has come
abbrev pub site_of : Site → config.Site
site_of s = record { place = s.place; entry = s.entry }

-- a fault, and where it has come
abbrev pub stopped_in : Stopped → config.Stopped
stopped_in s = record { fault = s.fault; site = site_of s.site }

-- the whole configuration
abbrev pub config_of : State → config.Config
config_of s = record {
  preamble = s.preamble.now;
  commands = filter (λ c. config.is_step c.command) s.commands.now;
  running = s.running;
  frames = map frame_of s.frames.items;
  stack = s.values.stack;
  globals = s.values.globals;
  entries = s.values.entries;
  visit = option_map visit_in s.visit;
  events = map event_of s.events;
  log = s.log.items;
  stopped = option_map stopped_in s.stopped;
}

-- there is room for a frame and a value
abbrev pub HasRoom : State → Type 0
HasRoom s = (1 ≤ s.frames.room) × (1 ≤ s.values.room)

-- of the room for frames and values so much is taken at most
abbrev pub LeavesRoom : ℕ → State → State → Type 0
LeavesRoom n old new = (old.frames.room ≤ new.frames.room + n) × (old.values.room ≤ new.values.room + n)
