-- What a step does doesn't depend on what was written before: it only writes behind it.
use Rattle.std.proofs.Common.{◌≡◌, ℕ, zero, suc, ◌+◌, Bool, true, false, cond, nat_lt, List, [], ◌∷◌, ◌++◌, length, Option, Some, None, Result, Ok, Err, refl, sym, ap, ◌∙◌, append-nil, arith}
use Rattle.std.proofs.lemmas.List.{append_assoc}
use Rattle.bv_base.specs.declared.place.Place.{Place}
use Rattle.name_table.specs.declared.names.Kind.{Kind}
use Rattle.name_table.specs.declared.names.Kind.TheVariants.{Builtin as BuiltinKind, Wizard, Field, IntEntry, StrEntry, IntGlobal, StrGlobal}
use Rattle.name_table.specs.declared.names.NameId.{NameId}
use Rattle.name_table.specs.declared.style.Command.{Command}
use Rattle.name_table.specs.declared.style.Command.TheVariants.{Execute, Iterate, Read, Reverse, Sort}
use Rattle.name_table.specs.declared.style.CommandAt.{CommandAt}
use Rattle.name_table.specs.declared.style.Style.{Style}
use Rattle.name_table.specs.declared.style.Token.{Token}
use Rattle.name_table.specs.declared.style.Token.TheVariants.{Int as IntToken, Str as StrToken, Quote, Block as BlockToken, Call}
use Rattle.name_table.specs.declared.style.TokenAt.{TokenAt}
use Rattle.bst_meaning.specs.declared.fault.Fault.{Fault}
use Rattle.bst_meaning.specs.declared.value.Target.{Target}
use Rattle.bst_meaning.specs.declared.value.Value.{Value}
use Rattle.bst_meaning.specs.declared.value.Value.TheVariants.{Int}
use Rattle.bst_meaning.specs.Builtins.{built_in}
use Rattle.bst_meaning.specs.Config.{Config, Event, Frame, Part, Testing, Turning, Variable, Visit, Whole, Stopped}
use Rattle.bst_meaning.specs.Effect.{Effect, Entered}
use Rattle.bst_meaning.specs.Machine.{assigned_by, call_end_step, call_ended, call_step, command_step, context_of, frame_step, going_step, outer_step, return_step, step, steps, test_ended, token_step, unless_stopped, visit_of, visit_step, with_assigned, with_effect, with_entered, with_found}
use Rattle.bst_meaning.specs.Operands.{is_positive}
use Rattle.bst_meaning.specs.StyleParts.{kind_of}
use Rattle.bst_step.specs.Machine.{behind}

module _ (style : Style) (es : List Event) where
  assigned_behind : (kind : Option Kind) (new : Variable) (c : Config) → assigned_by kind new (behind es c) ≡ behind es (assigned_by kind new c)
  assigned_behind (Some IntEntry) new c = refl
  assigned_behind (Some StrEntry) new c = refl
  assigned_behind _ new c = refl

  variable_behind : (new : Option Variable) (c : Config) → with_assigned style new (behind es c) ≡ behind es (with_assigned style new c)
  variable_behind None c = refl
  variable_behind (Some new) c = assigned_behind (kind_of style new.name) new c

  entered_behind : (entered : Option Entered) (place : Place) (c : Config)
      → with_entered style entered place (behind es c) ≡ behind es (with_entered style entered place c)
  entered_behind None place c = refl
  entered_behind (Some entered) place c = refl

  -- what an effect writes stands behind all that was written before
  effect_behind : (r : Result Effect Fault) (place : Place) (c : Config) → with_effect style r place (behind es c) ≡ behind es (with_effect style r place c)
  effect_behind (Err fault) place c = refl
  effect_behind (Ok effect) place c =
      let after : Config = record c { stack = effect.stack; events = c.events ++ effect.wrote; log = c.log ++ effect.logged } in
      ap (λ (events : List Event). with_entered style effect.entered place (with_assigned style effect.assigned (record after { events = events })))
      (append_assoc es c.events effect.wrote)
      ∙ ap (with_entered style effect.entered place) (variable_behind effect.assigned after)
      ∙ entered_behind effect.entered place (with_assigned style effect.assigned after)

  found_behind : (value : Option Value) (place : Place) (c : Config) → with_found value place (behind es c) ≡ behind es (with_found value place c)
  found_behind None place c = refl
  found_behind (Some value) place c = refl

  call_behind : (kind : Option Kind) (name : NameId) (place : Place) (c : Config)
      → call_step style kind name place (behind es c) ≡ behind es (call_step style kind name place c)
  call_behind (Some (BuiltinKind o)) name place c = effect_behind (built_in o (context_of style c) c.stack) place c
  call_behind (Some (Wizard body)) name place c = refl
  call_behind (Some Field) name place c = found_behind _ place c
  call_behind (Some IntEntry) name place c = found_behind _ place c
  call_behind (Some StrEntry) name place c = found_behind _ place c
  call_behind (Some IntGlobal) name place c = found_behind _ place c
  call_behind (Some StrGlobal) name place c = found_behind _ place c
  call_behind None name place c = refl

  token_behind : (token : Token) (place : Place) (c : Config) → token_step style token place (behind es c) ≡ behind es (token_step style token place c)
  token_behind (IntToken n) place c = refl
  token_behind (StrToken text) place c = refl
  token_behind (Quote name) place c = refl
  token_behind (BlockToken body) place c = refl
  token_behind (Call name) place c = call_behind (kind_of style name) name place c

  either : (t : Bool) (c d : Config) → cond t (behind es c) (behind es d) ≡ behind es (cond t c d)
  either true c d = refl
  either false c d = refl

  test_behind : (test body : Target) (place : Place) (stack : List Value) (c : Config)
      → test_ended style test body place stack (behind es c) ≡ behind es (test_ended style test body place stack c)
  test_behind test body place [] c = refl
  test_behind test body place (Int n ∷ stack) c = either (is_positive n) _ _
  test_behind test body place (_ ∷ stack) c = refl

  return_behind : (part : Part) (place : Place) (c : Config) → return_step style part place (behind es c) ≡ behind es (return_step style part place c)
  return_behind Whole place c = refl
  return_behind (Testing test body) place c = test_behind test body place c.stack c
  return_behind (Turning test body) place c = refl

  inner_behind : (frame : Frame) (frames : List Frame) (tokens : List TokenAt) (c : Config)
      → frame_step style frame frames tokens (behind es c) ≡ behind es (frame_step style frame frames tokens c)
  inner_behind frame frames [] c = return_behind frame.part frame.place (record c { frames = frames })
  inner_behind frame frames (t ∷ tokens) c = token_behind t.token t.place (record c { frames = record frame { tokens = tokens } ∷ frames })

  visit_behind : (name : NameId) (place : Place) (commands : List CommandAt) (visit : Visit) (c : Config)
      → visit_step name place commands visit (behind es c) ≡ behind es (visit_step name place commands visit c)
  visit_behind name place commands visit c = either (nat_lt visit.visited (length c.entries)) _ _

  command_behind : (command : Command) (place : Place) (commands : List CommandAt) (c : Config)
      → command_step command place commands (behind es c) ≡ behind es (command_step command place commands c)
  command_behind (Execute name) place commands c = refl
  command_behind (Iterate name) place commands c = visit_behind name place commands (visit_of false c.visit) c
  command_behind (Reverse name) place commands c = visit_behind name place commands (visit_of true c.visit) c
  command_behind Read place commands c = refl
  command_behind Sort place commands c = refl
  command_behind _ place commands c = refl

  ended_behind : (visit : Option Visit) (commands : List CommandAt) (c : Config) → call_ended visit commands (behind es c) ≡ behind es (call_ended visit commands c)
  ended_behind None commands c = refl
  ended_behind (Some visit) commands c = refl

  end_behind : (stack : List Value) (place : Place) (commands : List CommandAt) (c : Config)
      → call_end_step stack place commands (behind es c) ≡ behind es (call_end_step stack place commands c)
  end_behind [] place commands c = ended_behind c.visit commands c
  end_behind (value ∷ stack) place commands c = refl

  outer_behind : (running : Bool) (commands : List CommandAt) (c : Config) → outer_step running commands (behind es c) ≡ behind es (outer_step running commands c)
  outer_behind running [] c = refl
  outer_behind true (first ∷ commands) c = end_behind c.stack first.place commands c
  outer_behind false (first ∷ commands) c = command_behind first.command first.place commands c

  going_behind : (frames : List Frame) (c : Config) → going_step style frames (behind es c) ≡ behind es (going_step style frames c)
  going_behind [] c = outer_behind c.running c.commands c
  going_behind (frame ∷ frames) c = inner_behind frame frames frame.tokens c

  step_behind : (c : Config) → step style (behind es c) ≡ behind es (step style c)
  step_behind c = by c.stopped
    where
      by : (stopped : Option Stopped) → unless_stopped stopped (behind es c) (going_step style c.frames (behind es c))
          ≡ behind es (unless_stopped stopped c (going_step style c.frames c))
      by None = going_behind c.frames c
      by (Some stopped) = refl

  steps_behind : (n : ℕ) (c : Config) → steps style n (behind es c) ≡ behind es (steps style n c)
  steps_behind zero c = refl
  steps_behind (suc n) c = ap (steps style n) (step_behind c) ∙ steps_behind n (step style c)

-- steps leave what was written: they are those of the configuration without it, behind it
pub steps_leave : (style : Style) (n : ℕ) (c : Config) → steps style n c ≡ behind c.events (steps style n (record c { events = [] }))
steps_leave style n c =
    ap (λ (events : List Event). steps style n (record c { events = events })) (sym (append-nil c.events))
    ∙ steps_behind style c.events n (record c { events = [] })

-- some steps, and more after them
pub steps_add : (style : Style) (k n : ℕ) (c : Config) → steps style (k + n) c ≡ steps style n (steps style k c)
steps_add style zero n c =
    let none : zero + n ≡ n = omega arith in
    ap (λ (m : ℕ). steps style m c) none
steps_add style (suc k) n c =
    let one_more : suc k + n ≡ suc (k + n) = omega arith in
    ap (λ (m : ℕ). steps style m c) one_more ∙ steps_add style k n (step style c)
