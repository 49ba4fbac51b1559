-- What the walk of a call says of the machine (docs/CHECKER.md, "What accepted means"): what comes after it is safe where it is
-- safe from each state that the walk gives.
use Rattle.std.specs.Prelude.{◌≡◌, ◌≢◌, ℕ, zero, suc, ◌≤◌, Bool, false, List, [], ◌++◌, map, slice_get, Some, None, Ok}
use Rattle.bv_base.specs.declared.place.Place.{Place}
use Rattle.lin_facts.specs.declared.row.Row.{Row}
use Rattle.name_table.specs.declared.names.NameId.{NameId}
use Rattle.name_table.specs.declared.style.Style.{Style}
use Rattle.bst_meaning.specs.Config.{Config, Frame, Testing, Whole}
use Rattle.bst_meaning.specs.Invariant.{IsWellFormed}
use Rattle.bst_meaning.specs.Keeping.{placed}
use Rattle.bst_meaning.specs.Machine.{call_step, step, visited_index, with_frame}
use Rattle.bst_meaning.specs.Safe.{IsFine}
use Rattle.bst_meaning.specs.StyleParts.{entered_tokens, kind_of, tokens_of}
use Rattle.bst_meaning.specs.declared.condition.Cond.{Cond}
use Rattle.bst_meaning.specs.EntryLists.{EntryList}
use Rattle.bst_meaning.specs.declared.value.Target.{Target}
use Rattle.bst_meaning.specs.declared.value.Target.TheVariants.{Named, Block}
use Rattle.bst_meaning.specs.declared.value.Value.{Value}
use Rattle.cert_format.specs.declared.cert.Cert.{Cert}
use Rattle.cert_format.specs.declared.cert.Loop.{Loop}
use Rattle.sym_state.specs.State.{State}
use Rattle.sym_state.specs.Changes.{symbol_at}
use Rattle.sym_state.specs.Stands.{Stands}
use Rattle.sym_state.specs.Symbols.{Agrees, Valuation}
use Rattle.sym_state.specs.WellMade.{WellMade}
use Rattle.sym_state.specs.declared.symbol.Fact.{Fact}
use Rattle.refinements.specs.Covered.{IsAmong}
use Rattle.cert_check.specs.Units.{checked_at, loop_checked_at}
use Rattle.cert_check.specs.Walks.{Scope, may_write}

-- the configuration is fine, and so are those of the next n steps
abbrev pub SafeFor : Style → ℕ → Config → Type 0
SafeFor style zero c = IsFine style c
SafeFor style (suc n) c = IsFine style c × SafeFor style n (step style c)

-- the machine enters a target
abbrev pub target_step : Style → Target → Place → Config → Config
target_step style (Named name) at c = call_step style (kind_of style name) name at c
target_step style (Block body) at c = with_frame (tokens_of style body) at Whole c

-- the machine enters the test of a loop
abbrev pub loop_step : Style → Loop → Place → Config → Config
loop_step style one at c = with_frame (entered_tokens style one.test at) at (Testing one.test one.body) c

-- whether the whole stack is known and whether an entry is visited stay, the fields keep their symbols, no symbol is given back, and
-- facts and rows are only added at the end: what holds of one rule after the other
pub record Grows (old new : State) : Type 0 where
  pub whole : new.whole ≡ old.whole
  pub at_entry : new.at_entry ≡ old.at_entry
  pub fields : new.fields ≡ old.fields
  pub next : old.next ≤ new.next
  pub facts : (more : List Fact) × (new.facts ≡ old.facts ++ more)
  pub rows : (more : List Row) × (new.rows ≡ old.rows ++ more)

-- the state after is well made, grows from the one before, and variables that may not be written keep their symbols
pub record Follows (scope : Scope) (start after : State) : Type 0 where
  pub made : WellMade scope.style after
  pub grows : Grows start after
  pub vars : (name : NameId) → may_write scope.writes name ≡ false → symbol_at name after.vars ≡ symbol_at name start.vars

-- what stays of a configuration while a call goes on: the commands, the visit, the entries but for the variables of the one
-- that is visited, and all of them where the state isn't at an entry; these frames wait
pub record Remains (at_entry : Bool) (frames : List Frame) (c d : Config) : Type 0 where
  pub goes : d.stopped ≡ None
  pub waiting : d.frames ≡ frames
  pub commands : d.commands ≡ c.commands
  pub running : d.running ≡ c.running
  pub visit : d.visit ≡ c.visit
  pub order : map placed d.entries ≡ map placed c.entries
  pub others : (at : ℕ) → visited_index c ≢ Some at → slice_get d.entries at ≡ slice_get c.entries at
  pub entries : at_entry ≡ false → d.entries ≡ c.entries

-- a state stands for a configuration of a run, which goes on and may be entered by a step
pub record IsAt (style : Style) (cond : Cond) (list : EntryList) (v : Valuation) (state : State) (enter : Config → Config) (c : Config)
    (below : List Value) : Type 0 where
  pub goes : c.stopped ≡ None
  pub formed : IsWellFormed style list c
  pub stands : Stands style cond list v state c below
  pub enters : IsWellFormed style list (enter c)

-- a later state stands for a later configuration: it follows the first, by an assignment that agrees on the symbols that were there,
-- above the same values, and the same frames wait
pub record IsLeft (scope : Scope) (list : EntryList) (v : Valuation) (state : State) (c : Config) (below : List Value) (after : State) (w : Valuation)
    (d : Config) : Type 0 where
  pub follows : Follows scope state after
  pub agrees : Agrees state.next v w
  pub remains : Remains state.at_entry c.frames c d
  pub formed : IsWellFormed scope.style list d
  pub stands : Stands scope.style scope.cert.cond list w after d below

-- where states are walked on to others, the machine is fine for so many steps after a step by which it enters something from a
-- configuration for which one of the first stands, where it is from each for which one of the last does
abbrev pub EntersBy : Scope → EntryList → ℕ → (Config → Config) → List State → List State → Type 0
EntersBy scope list n enter states given =
    (state : State) (v : Valuation) (c : Config) (below : List Value) → IsAmong state states
    → IsAt scope.style scope.cert.cond list v state enter c below
    → ((after : State) (w : Valuation) (d : Config) → IsAmong after given → IsLeft scope list v state c below after w d → SafeFor scope.style n d)
    → SafeFor scope.style n (enter c)

-- a target
abbrev pub EntersSafely : Scope → EntryList → ℕ → Target → Place → List State → List State → Type 0
EntersSafely scope list n target at = EntersBy scope list n (target_step scope.style target at)

-- the test of a loop
abbrev pub RepeatsSafely : Scope → EntryList → ℕ → Loop → Place → List State → List State → Type 0
RepeatsSafely scope list n one at = EntersBy scope list n (loop_step scope.style one at)

-- every summary and every loop of a certificate is checked
pub record IsAllChecked (style : Style) (cert : Cert) : Type 0 where
  pub summaries : (k : ℕ) → checked_at style cert k ≡ Ok []
  pub loops : (k : ℕ) → loop_checked_at style cert k ≡ Ok []
