-- The machine's invariant (docs/MACHINE.md, "Invariant"): what holds of every configuration of a run.
use Rattle.std.specs.Prelude.{◌≡◌, List, map, IsPermutation}
use Rattle.std.specs.List.{AllByRecursion}
use Rattle.name_table.specs.declared.names.NameId.{NameId}
use Rattle.name_table.specs.declared.style.Style.{Style}
use Rattle.name_table.specs.Sound.{Each, IsCommandSound, IsTokenSound}
use Rattle.bst_meaning.specs.EntryLists.{EntryList}
use Rattle.bst_meaning.specs.Config.{Config, EntryState, Frame, Part, Testing, Turning, Variable, opening, opening_entry_variable, opening_global, opening_variables}
use Rattle.bst_meaning.specs.Entries.{EntryFits}
use Rattle.bst_meaning.specs.Keeping.{placed}
use Rattle.bst_meaning.specs.StyleParts.{kind_of}
use Rattle.bst_meaning.specs.Values.{IsOfKind, IsTarget, IsValueOf}

-- the functions of a `while$` can be entered
abbrev pub IsPartSound : Style → Part → Type 0
IsPartSound style (Testing test body) = IsTarget style test × IsTarget style body
IsPartSound style (Turning test body) = IsTarget style test × IsTarget style body
IsPartSound style _ = Unit {0}

-- what the tokens and the part of a frame name is there
pub record IsFrameSound (style : Style) (frame : Frame) : Type 0 where
  pub tokens : Each (λ at. IsTokenSound style.names style.bodies style.texts at.token) frame.tokens
  pub part : IsPartSound style frame.part

-- the names of variables
abbrev pub names_of : List Variable → List NameId
names_of variables = map (λ v. v.name) variables

-- variables of these names in this order, each with a value of its kind
pub record AreVariables (style : Style) (names : List NameId) (variables : List Variable) : Type 0 where
  pub named : names_of variables ≡ names
  pub values : AllByRecursion (λ v. IsOfKind (kind_of style v.name) v.value) variables

-- an entry fits the style, and has the style's entry variables
pub record IsEntrySound (style : Style) (e : EntryState) : Type 0 where
  pub fits : EntryFits style e.entry
  pub variables : AreVariables style (names_of (opening_variables opening_entry_variable 0 style.names)) e.variables

-- a configuration of a run of the style over the list: what commands and frames name is there, values are values of the run,
-- variables have values of their kinds, and the entries are those of the list with their positions, in some order
pub record IsWellFormed (style : Style) (list : EntryList) (c : Config) : Type 0 where
  pub preamble : c.preamble ≡ list.preamble
  pub commands : Each (λ at. IsCommandSound style.names at.command) c.commands
  pub frames : AllByRecursion (IsFrameSound style) c.frames
  pub stack : AllByRecursion (IsValueOf style) c.stack
  pub globals : AreVariables style (names_of (opening_variables opening_global 0 style.names)) c.globals
  pub entries : AllByRecursion (IsEntrySound style) c.entries
  pub order : IsPermutation (map placed (opening style list).entries) (map placed c.entries)
