-- The fault of a run of a style that was read stands at a byte of its text.
use Rattle.std.proofs.Common.{◌≡◌, ℕ, Bool, true, false, cond, nat_lt, List, [], ◌∷◌, length, Option, None, Some, Result, Ok, Err, subst}
use Rattle.std.specs.Prelude.{IfSome, slice_get}
use Rattle.std.specs.Option.{option_map_or}
use Rattle.bv_base.specs.declared.place.Place.{Place}
use Rattle.name_table.specs.Sound.{Each}
use Rattle.name_table.specs.declared.names.NameId.{NameId}
use Rattle.name_table.specs.declared.names.Kind.{Kind}
use Rattle.name_table.specs.declared.names.Kind.TheVariants.{Builtin as BuiltinKind, Wizard, IntEntry, StrEntry}
use Rattle.name_table.specs.declared.style.Token.{Token}
use Rattle.name_table.specs.declared.style.Token.TheVariants.{Call}
use Rattle.name_table.specs.declared.style.TokenAt.{TokenAt}
use Rattle.name_table.specs.declared.style.Body.{Body}
use Rattle.name_table.specs.declared.style.BodyId.{BodyId}
use Rattle.name_table.specs.declared.style.Command.{Command}
use Rattle.name_table.specs.declared.style.Command.TheVariants.{Execute, Iterate, Read, Reverse, Sort}
use Rattle.name_table.specs.declared.style.CommandAt.{CommandAt}
use Rattle.name_table.specs.declared.style.Style.{Style}
use Rattle.bst_parse.specs.PlacesStand.{BodyStands, IsOfByte, PlacesStand}
use Rattle.bst_meaning.specs.EntryLists.{EntryList}
use Rattle.bst_meaning.specs.declared.value.Target.{Target}
use Rattle.bst_meaning.specs.declared.value.Target.TheVariants.{Named, Block}
use Rattle.bst_meaning.specs.declared.value.Value.{Value}
use Rattle.bst_meaning.specs.declared.value.Value.TheVariants.{Int}
use Rattle.bst_meaning.specs.declared.fault.Fault.{Fault}
use Rattle.bst_meaning.specs.declared.fault.Fault.TheVariants.{NoEntry}
use Rattle.bst_meaning.specs.StyleParts.{kind_of, tokens_of, entered_tokens}
use Rattle.bst_meaning.specs.Config.{Config, Frame, Part, Whole, Testing, Turning, Variable, Visit, Stopped, opening, is_step}
use Rattle.bst_meaning.specs.Effect.{Effect, Entered}
use Rattle.bst_meaning.specs.Operands.{is_positive}
use Rattle.bst_meaning.specs.Builtins.{built_in}
use Rattle.bst_meaning.specs.Machine.{assigned_by, call_end_step, call_ended, call_step, command_step, context_of, frame_step, going_step, outer_step, return_step, run, step, stopped_by, test_ended, token_step, visit_of, visit_step, with_assigned, with_call, with_effect, with_entered, with_found, with_frame, with_value}
use Rattle.name_table.proofs.Within.{each_kept, got}
use Rattle.bst_meaning.proofs.Stepping.{kept_step, kept_steps}

module _ (source : List ℕ) where
  -- a frame and each token that it has left stand at a byte
  record FrameStands (frame : Frame) : Type 0 where
    pub place : IsOfByte source frame.place
    pub tokens : Each (λ t. IsOfByte source t.place) frame.tokens

  -- the commands left, the frames and the fault of a configuration stand at bytes
  record Stands (c : Config) : Type 0 where
    pub commands : Each (λ command. IsOfByte source command.place) c.commands
    pub frames : Each FrameStands c.frames
    pub stopped : IfSome c.stopped (λ stopped. IsOfByte source stopped.site.place)

  stopped_stands : (fault : Fault) (place : Place) (c : Config) → IsOfByte source place → Stands c → Stands (stopped_by fault place c)
  stopped_stands fault place c at s = record { commands = s.commands; frames = s.frames; stopped = at }

  frame_stands : (tokens : List TokenAt) (place : Place) (part : Part) (c : Config) → Each (λ t. IsOfByte source t.place) tokens → IsOfByte source place
      → Stands c → Stands (with_frame tokens place part c)
  frame_stands tokens place part c each at s =
      record { commands = s.commands; frames = (record { place = at; tokens = each }, s.frames); stopped = s.stopped }

  -- the tokens of a body that was got
  body_tokens : (body : Option Body) → IfSome body (BodyStands source) → Each (λ t. IsOfByte source t.place) (option_map_or (λ b. b.tokens) body [])
  body_tokens None stands = tt
  body_tokens (Some body) stands = stands.tokens

  module _ (style : Style) (stands : PlacesStand source style) where
    tokens_stand : (body : BodyId) → Each (λ t. IsOfByte source t.place) (tokens_of style body)
    tokens_stand body = body_tokens (slice_get style.bodies body.0) (got (BodyStands source) style.bodies body.0 stands.bodies)

    entered_stand : (target : Target) (place : Place) → IsOfByte source place → Each (λ t. IsOfByte source t.place) (entered_tokens style target place)
    entered_stand (Named name) place at = (at, tt)
    entered_stand (Block body) place at = tokens_stand body

    assigned_stands : (kind : Option Kind) (new : Variable) (c : Config) → Stands c → Stands (assigned_by kind new c)
    assigned_stands (Some IntEntry) new c s = record { commands = s.commands; frames = s.frames; stopped = s.stopped }
    assigned_stands (Some StrEntry) new c s = record { commands = s.commands; frames = s.frames; stopped = s.stopped }
    assigned_stands _ new c s = record { commands = s.commands; frames = s.frames; stopped = s.stopped }

    variable_stands : (new : Option Variable) (c : Config) → Stands c → Stands (with_assigned style new c)
    variable_stands None c s = s
    variable_stands (Some new) c s = assigned_stands (kind_of style new.name) new c s

    entered_stands : (entered : Option Entered) (place : Place) (c : Config) → IsOfByte source place → Stands c → Stands (with_entered style entered place c)
    entered_stands None place c at s = s
    entered_stands (Some entered) place c at s =
        frame_stands (entered_tokens style entered.target place) place entered.part c (entered_stand entered.target place at) at s

    effect_stands : (effect : Result Effect Fault) (place : Place) (c : Config) → IsOfByte source place → Stands c → Stands (with_effect style effect place c)
    effect_stands (Err fault) place c at s = stopped_stands fault place c at s
    effect_stands (Ok effect) place c at s =
        entered_stands effect.entered place _ at
        (variable_stands effect.assigned _ (record { commands = s.commands; frames = s.frames; stopped = s.stopped }))

    value_stands : (value : Value) (c : Config) → Stands c → Stands (with_value value c)
    value_stands value c s = record { commands = s.commands; frames = s.frames; stopped = s.stopped }

    found_stands : (value : Option Value) (place : Place) (c : Config) → IsOfByte source place → Stands c → Stands (with_found value place c)
    found_stands None place c at s = stopped_stands NoEntry place c at s
    found_stands (Some value) place c at s = value_stands value c s

    call_stands : (kind : Option Kind) (name : NameId) (place : Place) (c : Config) → IsOfByte source place → Stands c → Stands (call_step style kind name place c)
    call_stands (Some (BuiltinKind op)) name place c at s = effect_stands (built_in op (context_of style c) c.stack) place c at s
    call_stands (Some (Wizard body)) name place c at s = frame_stands (tokens_of style body) place Whole c (tokens_stand body) at s
    call_stands None name place c at s = s
    call_stands _ name place c at s = found_stands _ place c at s

    token_stands : (token : Token) (place : Place) (c : Config) → IsOfByte source place → Stands c → Stands (token_step style token place c)
    token_stands (Call name) place c at s = call_stands (kind_of style name) name place c at s
    token_stands _ place c at s = value_stands _ c s

    test_stands : (test body : Target) (place : Place) (stack : List Value) (c : Config) → IsOfByte source place → Stands c
        → Stands (test_ended style test body place stack c)
    test_stands test body place [] c at s = stopped_stands _ place c at s
    test_stands test body place (Int n ∷ stack) c at s = by (is_positive n)
      where
        popped : Stands (record c { stack = stack })
        popped = record { commands = s.commands; frames = s.frames; stopped = s.stopped }

        by : (t : Bool) → Stands (cond t (with_frame (entered_tokens style body place) place (Turning test body) (record c { stack = stack })) (record c { stack = stack }))
        by true = frame_stands (entered_tokens style body place) place (Turning test body) _ (entered_stand body place at) at popped
        by false = popped
    test_stands test body place (_ ∷ stack) c at s = stopped_stands _ place c at s

    return_stands : (part : Part) (place : Place) (c : Config) → IsOfByte source place → Stands c → Stands (return_step style part place c)
    return_stands Whole place c at s = s
    return_stands (Testing test body) place c at s = test_stands test body place c.stack c at s
    return_stands (Turning test body) place c at s =
        frame_stands (entered_tokens style test place) place (Testing test body) c (entered_stand test place at) at s

    inner_stands : (frame : Frame) (frames : List Frame) (tokens : List TokenAt) (c : Config) → IsOfByte source frame.place
        → Each (λ t. IsOfByte source t.place) tokens → Each FrameStands frames → Stands c → Stands (frame_step style frame frames tokens c)
    inner_stands frame frames [] c at each outer s =
        return_stands frame.part frame.place _ at (record { commands = s.commands; frames = outer; stopped = s.stopped })
    inner_stands frame frames (t ∷ tokens) c at each outer s =
        token_stands t.token t.place _ each.0
        (record { commands = s.commands; frames = (record { place = at; tokens = each.1 }, outer); stopped = s.stopped })

    begun_stands : (name : NameId) (place : Place) (c : Config) → IsOfByte source place → Stands c → Stands (with_call name place c)
    begun_stands name place c at s =
        frame_stands _ place Whole _ (at, tt) at (record { commands = s.commands; frames = s.frames; stopped = s.stopped })

    visit_stands : (name : NameId) (place : Place) (commands : List CommandAt) (visit : Visit) (c : Config) → IsOfByte source place
        → Each (λ command. IsOfByte source command.place) commands → Stands c → Stands (visit_step name place commands visit c)
    visit_stands name place commands visit c at left s = by (nat_lt visit.visited (length c.entries))
      where
        by : (t : Bool) → Stands (cond t (with_call name place (record c { visit = Some visit })) (record c { commands = commands; visit = None }))
        by true = begun_stands name place (record c { visit = Some visit }) at (record { commands = s.commands; frames = s.frames; stopped = s.stopped })
        by false = record { commands = left; frames = s.frames; stopped = s.stopped }

    command_stands : (command : Command) (place : Place) (commands : List CommandAt) (c : Config) → IsOfByte source place
        → Each (λ command. IsOfByte source command.place) commands → Stands c → Stands (command_step command place commands c)
    command_stands (Execute name) place commands c at left s = begun_stands name place c at s
    command_stands (Iterate name) place commands c at left s = visit_stands name place commands (visit_of false c.visit) c at left s
    command_stands (Reverse name) place commands c at left s = visit_stands name place commands (visit_of true c.visit) c at left s
    command_stands Read place commands c at left s = record { commands = left; frames = s.frames; stopped = s.stopped }
    command_stands Sort place commands c at left s = record { commands = left; frames = s.frames; stopped = s.stopped }
    command_stands _ place commands c at left s = record { commands = left; frames = s.frames; stopped = s.stopped }

    ended_stands : (visit : Option Visit) (commands : List CommandAt) (c : Config) → Each (λ command. IsOfByte source command.place) commands
        → Stands c → Stands (call_ended visit commands c)
    ended_stands None commands c left s = record { commands = left; frames = s.frames; stopped = s.stopped }
    ended_stands (Some visit) commands c left s = record { commands = s.commands; frames = s.frames; stopped = s.stopped }

    end_stands : (stack : List Value) (place : Place) (commands : List CommandAt) (c : Config) → IsOfByte source place
        → Each (λ command. IsOfByte source command.place) commands → Stands c → Stands (call_end_step stack place commands c)
    end_stands [] place commands c at left s = ended_stands c.visit commands c left s
    end_stands (value ∷ stack) place commands c at left s = stopped_stands _ place c at s

    outer_stands : (running : Bool) (commands : List CommandAt) (c : Config) → Each (λ command. IsOfByte source command.place) commands
        → Stands c → Stands (outer_step running commands c)
    outer_stands running [] c each s = s
    outer_stands true (first ∷ commands) c each s = end_stands c.stack first.place commands c each.0 each.1 s
    outer_stands false (first ∷ commands) c each s = command_stands first.command first.place commands c each.0 each.1 s

    going_stands : (frames : List Frame) (c : Config) → Each FrameStands frames → Stands c → Stands (going_step style frames c)
    going_stands [] c each s = outer_stands c.running c.commands c s.commands s
    going_stands (frame ∷ frames) c each s = inner_stands frame frames frame.tokens c each.0.place each.0.tokens each.1 s

    step_stands : (c : Config) → Stands c → Stands (step style c)
    step_stands = kept_step style Stands (λ c s. going_stands c.frames c s.frames s)

    -- the site of a fault
    pub site_stands : (list : EntryList) (n : ℕ) (stopped : Stopped) → (run style list n).stopped ≡ Some stopped → IsOfByte source stopped.site.place
    site_stands list n stopped is =
        let opened : Stands (opening style list) =
        record { commands = each_kept (λ command. IsOfByte source command.place) (λ c. is_step c.command) style.commands stands.commands; frames = tt; stopped = tt } in
        subst (λ (o : Option Stopped). IfSome o (λ stopped. IsOfByte source stopped.site.place)) is (kept_steps style Stands step_stands n (opening style list) opened).stopped
