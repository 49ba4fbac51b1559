-- A built-in function leaves as it was what its definition says.
use Rattle.std.proofs.Common.{◌≡◌, ℕ, Bool, true, false, List, ◌++◌, map, Option, Some, None, Result, Ok, Err, refl, ap}
use Rattle.std.proofs.Math.ListN.{set}
use Rattle.std.specs.Prelude.{◌≢◌, slice_get, IfSome}
use Rattle.std.specs.Option.{option_map_or}
use Rattle.std.specs.Result.{IfOk}
use Rattle.bv_base.specs.declared.place.Place.{Place}
use Rattle.name_table.specs.declared.builtin.Builtin.{Builtin}
use Rattle.name_table.specs.declared.names.Kind.{Kind}
use Rattle.name_table.specs.declared.names.Kind.TheVariants.{IntEntry, StrEntry}
use Rattle.name_table.specs.declared.style.Style.{Style}
use Rattle.bst_meaning.specs.declared.fault.Fault.{Fault}
use Rattle.bst_meaning.specs.Builtins.{built_in}
use Rattle.bst_meaning.specs.Config.{Config, EntryState, Variable}
use Rattle.bst_meaning.specs.Effect.{Effect, Entered}
use Rattle.bst_meaning.specs.Keeping.{IsConfined, IsKept, IsOther, is_assign, is_plain, name_on_top, placed}
use Rattle.bst_meaning.specs.Machine.{assigned_by, context_of, value_at, visited_index, with_assigned, with_effect, with_entered, with_entry_variable, with_variable}
use Rattle.bst_meaning.specs.StyleParts.{kind_of}
use Rattle.bst_meaning.proofs.Confined.{confined}
use Rattle.bst_meaning.proofs.Replacing.{set_other, set_seen, variable_kept}

-- an entry with a new value for a variable
abbrev with_new : Variable → EntryState → EntryState
with_new new e = record e { variables = with_variable new e.variables }

-- what is seen of entries alike before and after stays
pub entries_seen : {Y : Type 0} (f : EntryState → Y) (new : Variable) (at : Option ℕ) (entries : List EntryState)
    → ((e : EntryState) → f (with_new new e) ≡ f e) → map f (with_entry_variable new at entries) ≡ map f entries
entries_seen f new None entries same = refl
entries_seen f new (Some at) entries same =
    elim (slice_get entries at) as (λ (o : Option EntryState). slice_get entries at ≡ o
    → map f (option_map_or (λ e. set entries at (with_new new e)) o entries) ≡ map f entries) [
      | Some e ↦ λ is. set_seen f entries at e (with_new new e) is (same e)
      | None ↦ λ is. refl
    ] refl

entry_other : (new : Variable) (at : Option ℕ) (entries : List EntryState) (j : ℕ) → at ≢ Some j
    → slice_get (with_entry_variable new at entries) j ≡ slice_get entries j
entry_other new None entries j other = refl
entry_other new (Some at) entries j other =
    elim (slice_get entries at) as (λ (o : Option EntryState).
    slice_get (option_map_or (λ e. set entries at (with_new new e)) o entries) j ≡ slice_get entries j) [
      | Some e ↦ set_other entries at j (with_new new e) (λ same. other (ap (λ (n : ℕ). Some n) same))
      | None ↦ refl
    ]

-- a configuration is kept, by the parts
kept_parts : (o : Builtin) (before after : Config) → after.preamble ≡ before.preamble → after.commands ≡ before.commands
    → after.running ≡ before.running → after.visit ≡ before.visit → (is_plain o ≡ true → after.frames ≡ before.frames)
    → (is_assign o ≡ false → after.globals ≡ before.globals)
    → ((id : ℕ) → IsOther id before.stack → value_at id after.globals ≡ value_at id before.globals)
    → (is_assign o ≡ false → after.entries ≡ before.entries) → map placed after.entries ≡ map placed before.entries
    → ((at : ℕ) → visited_index before ≢ Some at → slice_get after.entries at ≡ slice_get before.entries at)
    → ((id : ℕ) → IsOther id before.stack → map (λ e. value_at id e.variables) after.entries ≡ map (λ e. value_at id e.variables) before.entries)
    → IsKept o before after
kept_parts o before after preamble commands running visit frames globals other_globals entries order other_entries other_variables =
    record {
      preamble = preamble;
      commands = commands;
      running = running;
      visit = visit;
      frames = frames;
      globals = globals;
      other_globals = other_globals;
      entries = entries;
      order = order;
      other_entries = other_entries;
      other_variables = other_variables;
    }

-- a configuration is kept by what leaves all of these alone
same : (o : Builtin) (c after : Config) → after.preamble ≡ c.preamble → after.commands ≡ c.commands
    → after.running ≡ c.running → after.visit ≡ c.visit → after.frames ≡ c.frames → after.globals ≡ c.globals → after.entries ≡ c.entries
    → IsKept o c after
same o c after preamble commands running visit frames globals entries = kept_parts o _ _ preamble commands running visit (λ plain. frames) (λ none. globals) (λ id other. ap (λ (l : List Variable). value_at id l) globals) (λ none. entries) (ap (λ (l : List EntryState). map placed l) entries) (λ at other. ap (λ (l : List EntryState). slice_get l at) entries) (λ id other. ap (λ (l : List EntryState). map (λ e. value_at id e.variables) l) entries)

not_both : {X : Type 0} (t : Bool) → t ≡ true → t ≡ false → X
not_both true e f = absurd (cc)
not_both false e f = absurd (cc)

module _ (o : Builtin) (c : Config) where
  -- the stack, the events and the log are others
  abbrev moved : Effect → Config
  moved effect = record c { stack = effect.stack; events = c.events ++ effect.wrote; log = c.log ++ effect.logged }

  -- a variable that is named on top is assigned
  abbrev Assigns : Variable → Type 0
  Assigns new = (is_assign o ≡ true) × (name_on_top c.stack ≡ Some new.name)

  globals_kept : (effect : Effect) (new : Variable) → Assigns new → IsKept o c (record (moved effect) { globals = with_variable new c.globals })
  globals_kept effect new assigns = kept_parts o _ _ refl refl refl refl (λ plain. refl) (λ none. not_both (is_assign o) assigns.0 none) (λ id other. variable_kept new id c.globals (other new.name assigns.1)) (λ none. refl) refl (λ at other. refl) (λ id other. refl)

  entries_kept : (effect : Effect) (new : Variable) → Assigns new
      → IsKept o c (record (moved effect) { entries = with_entry_variable new (visited_index c) c.entries })
  entries_kept effect new assigns = kept_parts o _ _ refl refl refl refl (λ plain. refl) (λ none. refl) (λ id other. refl) (λ none. not_both (is_assign o) assigns.0 none) (entries_seen placed new (visited_index c) c.entries (λ e. refl)) (λ at other. entry_other new (visited_index c) c.entries at other) (λ id other. entries_seen (λ (e : EntryState). value_at id e.variables) new (visited_index c) c.entries (λ e. variable_kept new id e.variables (other new.name assigns.1)))

  variable_assigned : (effect : Effect) (kind : Option Kind) (new : Variable) → Assigns new → IsKept o c (assigned_by kind new (moved effect))
  variable_assigned effect (Some IntEntry) new assigns = entries_kept effect new assigns
  variable_assigned effect (Some StrEntry) new assigns = entries_kept effect new assigns
  variable_assigned effect _ new assigns = globals_kept effect new assigns

  assigned_kept : (style : Style) (effect : Effect) (assigned : Option Variable) → IfSome assigned Assigns
      → IsKept o c (with_assigned style assigned (moved effect))
  assigned_kept style effect None h = same o c (moved effect) refl refl refl refl refl refl refl
  assigned_kept style effect (Some new) h = variable_assigned effect (kind_of style new.name) new h

  entered_kept : (style : Style) (entered : Option Entered) (place : Place) (after : Config) → (is_plain o ≡ true → entered ≡ None)
      → IsKept o c after → IsKept o c (with_entered style entered place after)
  entered_kept style None place after h k = k
  entered_kept style (Some entered) place after h k = kept_parts o _ _ k.preamble k.commands k.running k.visit (λ plain. let none : Some entered ≡ None = h plain in absurd (cc)) k.globals k.other_globals k.entries k.order k.other_entries k.other_variables

  effect_kept : (style : Style) (r : Result Effect Fault) (place : Place) → IfOk r (IsConfined o c.stack) → IsKept o c (with_effect style r place c)
  effect_kept style (Err fault) place h = same o c (with_effect style (Err fault) place c) refl refl refl refl refl refl refl
  effect_kept style (Ok effect) place h =
      entered_kept style effect.entered place (with_assigned style effect.assigned (moved effect)) h.entered (assigned_kept style effect effect.assigned h.assigned)

pub kept : (style : Style) (o : Builtin) (place : Place) (c : Config) → IsKept o c (with_effect style (built_in o (context_of style c) c.stack) place c)
kept style o place c = effect_kept o c style (built_in o (context_of style c) c.stack) place (confined o (context_of style c) c.stack)
