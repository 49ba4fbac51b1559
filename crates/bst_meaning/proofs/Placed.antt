-- Every step leaves the entries and their positions as they are, in some order.
use Rattle.std.proofs.Common.{ℕ, zero, suc, Bool, true, false, cond, nat_lt, List, [], ◌∷◌, map, length, Option, Some, None, Result, Ok, Err, refl, sym, subst}
use Rattle.std.specs.Prelude.{IsPermutation}
use Rattle.std.proofs.lemmas.List.Sorted.{IsPermutation-map, IsPermutation-refl, IsPermutation-trans}
use Rattle.bv_base.specs.declared.place.Place.{Place}
use Rattle.name_table.specs.declared.names.Kind.{Kind}
use Rattle.name_table.specs.declared.names.Kind.TheVariants.{Builtin as BuiltinKind, Wizard, Field, IntEntry, StrEntry, IntGlobal, StrGlobal}
use Rattle.name_table.specs.declared.names.NameId.{NameId}
use Rattle.name_table.specs.declared.style.Command.{Command}
use Rattle.name_table.specs.declared.style.Command.TheVariants.{Execute, Iterate, Read, Reverse, Sort}
use Rattle.name_table.specs.declared.style.CommandAt.{CommandAt}
use Rattle.name_table.specs.declared.style.Style.{Style}
use Rattle.name_table.specs.declared.style.Token.{Token}
use Rattle.name_table.specs.declared.style.Token.TheVariants.{Int as IntToken, Str as StrToken, Quote, Block as BlockToken, Call}
use Rattle.name_table.specs.declared.style.TokenAt.{TokenAt}
use Rattle.bst_meaning.specs.EntryLists.{Entry}
use Rattle.bst_meaning.specs.declared.fault.Fault.{Fault}
use Rattle.bst_meaning.specs.declared.value.Target.{Target}
use Rattle.bst_meaning.specs.declared.value.Value.{Value}
use Rattle.bst_meaning.specs.declared.value.Value.TheVariants.{Int}
use Rattle.bst_meaning.specs.Builtins.{built_in}
use Rattle.bst_meaning.specs.Config.{Config, Frame, Part, Testing, Turning, Variable, Visit, Whole, Stopped}
use Rattle.bst_meaning.specs.Effect.{Effect, Entered}
use Rattle.bst_meaning.specs.Keeping.{placed}
use Rattle.bst_meaning.specs.Machine.{assigned_by, call_end_step, call_ended, call_step, command_step, context_of, frame_step, going_step, outer_step, return_step, step, steps, test_ended, token_step, unless_stopped, visit_of, visit_step, visited_index, with_assigned, with_effect, with_entered, with_found}
use Rattle.bst_meaning.specs.Operands.{is_positive}
use Rattle.bst_meaning.specs.Sorting.{sorted}
use Rattle.bst_meaning.specs.StyleParts.{kind_of}
use Rattle.bst_meaning.proofs.Kept.{entries_seen}
use Rattle.bst_meaning.proofs.Permuted.{sorted_permutes}

-- the entries of both with their positions, in some order
abbrev Same : Config → Config → Type 0
Same c d = IsPermutation (map placed c.entries) (map placed d.entries)

same : (c : Config) → Same c c
same c = IsPermutation-refl (map placed c.entries)

module _ (style : Style) where
  assigned_same : (kind : Option Kind) (new : Variable) (c : Config) → Same c (assigned_by kind new c)
  assigned_same (Some IntEntry) new c =
      subst (λ (l : List (Entry × ℕ)). IsPermutation (map placed c.entries) l)
      (sym (entries_seen placed new (visited_index c) c.entries (λ e. refl))) (same c)
  assigned_same (Some StrEntry) new c =
      subst (λ (l : List (Entry × ℕ)). IsPermutation (map placed c.entries) l)
      (sym (entries_seen placed new (visited_index c) c.entries (λ e. refl))) (same c)
  assigned_same _ new c = same c

  variable_same : (new : Option Variable) (c : Config) → Same c (with_assigned style new c)
  variable_same None c = same c
  variable_same (Some new) c = assigned_same (kind_of style new.name) new c

  entered_same : (entered : Option Entered) (place : Place) (c d : Config) → Same c d → Same c (with_entered style entered place d)
  entered_same None place c d h = h
  entered_same (Some entered) place c d h = h

  effect_same : (r : Result Effect Fault) (place : Place) (c : Config) → Same c (with_effect style r place c)
  effect_same (Err fault) place c = same c
  effect_same (Ok effect) place c = entered_same effect.entered place c _ (variable_same effect.assigned _)

  found_same : (value : Option Value) (place : Place) (c : Config) → Same c (with_found value place c)
  found_same None place c = same c
  found_same (Some value) place c = same c

  call_same : (kind : Option Kind) (name : NameId) (place : Place) (c : Config) → Same c (call_step style kind name place c)
  call_same (Some (BuiltinKind o)) name place c = effect_same (built_in o (context_of style c) c.stack) place c
  call_same (Some (Wizard body)) name place c = same c
  call_same (Some Field) name place c = found_same _ place c
  call_same (Some IntEntry) name place c = found_same _ place c
  call_same (Some StrEntry) name place c = found_same _ place c
  call_same (Some IntGlobal) name place c = found_same _ place c
  call_same (Some StrGlobal) name place c = found_same _ place c
  call_same None name place c = same c

  token_same : (token : Token) (place : Place) (c : Config) → Same c (token_step style token place c)
  token_same (IntToken n) place c = same c
  token_same (StrToken text) place c = same c
  token_same (Quote name) place c = same c
  token_same (BlockToken body) place c = same c
  token_same (Call name) place c = call_same (kind_of style name) name place c

  either : (t : Bool) (c d e : Config) → Same c d → Same c e → Same c (cond t d e)
  either true c d e h k = h
  either false c d e h k = k

  test_same : (test body : Target) (place : Place) (stack : List Value) (c : Config) → Same c (test_ended style test body place stack c)
  test_same test body place [] c = same c
  test_same test body place (Int n ∷ stack) c = either (is_positive n) c _ _ (same c) (same c)
  test_same test body place (_ ∷ stack) c = same c

  return_same : (part : Part) (place : Place) (c : Config) → Same c (return_step style part place c)
  return_same Whole place c = same c
  return_same (Testing test body) place c = test_same test body place c.stack c
  return_same (Turning test body) place c = same c

  inner_same : (frame : Frame) (frames : List Frame) (tokens : List TokenAt) (c : Config) → Same c (frame_step style frame frames tokens c)
  inner_same frame frames [] c = return_same frame.part frame.place (record c { frames = frames })
  inner_same frame frames (t ∷ tokens) c = token_same t.token t.place (record c { frames = record frame { tokens = tokens } ∷ frames })

  visit_same : (name : NameId) (place : Place) (commands : List CommandAt) (visit : Visit) (c : Config) → Same c (visit_step name place commands visit c)
  visit_same name place commands visit c = either (nat_lt visit.visited (length c.entries)) c _ _ (same c) (same c)

  command_same : (command : Command) (place : Place) (commands : List CommandAt) (c : Config) → Same c (command_step command place commands c)
  command_same (Execute name) place commands c = same c
  command_same (Iterate name) place commands c = visit_same name place commands (visit_of false c.visit) c
  command_same (Reverse name) place commands c = visit_same name place commands (visit_of true c.visit) c
  command_same Read place commands c = same c
  command_same Sort place commands c = IsPermutation-map placed c.entries (sorted c.entries) (sorted_permutes c.entries)
  command_same _ place commands c = same c

  ended_same : (visit : Option Visit) (commands : List CommandAt) (c : Config) → Same c (call_ended visit commands c)
  ended_same None commands c = same c
  ended_same (Some visit) commands c = same c

  end_same : (stack : List Value) (place : Place) (commands : List CommandAt) (c : Config) → Same c (call_end_step stack place commands c)
  end_same [] place commands c = ended_same c.visit commands c
  end_same (value ∷ stack) place commands c = same c

  outer_same : (running : Bool) (commands : List CommandAt) (c : Config) → Same c (outer_step running commands c)
  outer_same running [] c = same c
  outer_same true (first ∷ commands) c = end_same c.stack first.place commands c
  outer_same false (first ∷ commands) c = command_same first.command first.place commands c

  going_same : (frames : List Frame) (c : Config) → Same c (going_step style frames c)
  going_same [] c = outer_same c.running c.commands c
  going_same (frame ∷ frames) c = inner_same frame frames frame.tokens c

  step_same : (c : Config) → Same c (step style c)
  step_same c = by c.stopped
    where
      by : (stopped : Option Stopped) → Same c (unless_stopped stopped c (going_step style c.frames c))
      by None = going_same c.frames c
      by (Some stopped) = same c

  pub steps_same : (n : ℕ) (c : Config) → Same c (steps style n c)
  steps_same zero c = same c
  steps_same (suc n) c =
      IsPermutation-trans (map placed c.entries) (map placed (step style c).entries) (map placed (steps style n (step style c)).entries)
      (step_same c) (steps_same n (step style c))
