-- One step of the machine (docs/MACHINE.md, "Steps"), and the first n of them.
use Rattle.std.specs.Prelude.{ℕ, zero, suc, ◌+◌, ◌-◌, Bool, true, false, nat_eq, nat_lt, if◌then◌else◌, List, [], ◌∷◌, ◌++◌, length, slice_get, slice_set, Option, None, Some, Result, Ok, Err, option_map}
use Rattle.std.specs.Option.{option_and_then, option_map_or}
use Rattle.bv_base.specs.declared.place.Place.{Place}
use Rattle.name_table.specs.declared.names.NameId.{NameId}
use Rattle.name_table.specs.declared.names.Kind.{Kind}
use Rattle.name_table.specs.declared.names.Kind.TheVariants.{Builtin as BuiltinKind, Wizard, Field, IntEntry, StrEntry, IntGlobal, StrGlobal}
use Rattle.name_table.specs.declared.style.Token.{Token}
use Rattle.name_table.specs.declared.style.Token.TheVariants.{Int as IntToken, Str as StrToken, Quote, Block as BlockToken, Call}
use Rattle.name_table.specs.declared.style.TokenAt.{TokenAt}
use Rattle.name_table.specs.declared.style.Command.{Command}
use Rattle.name_table.specs.declared.style.Command.TheVariants.{Execute, Iterate, Read, Reverse, Sort}
use Rattle.name_table.specs.declared.style.CommandAt.{CommandAt}
use Rattle.name_table.specs.declared.style.Style.{Style}
use Rattle.bst_meaning.specs.FieldValues.{FieldValue}
use Rattle.bst_meaning.specs.EntryLists.{EntryList}
use Rattle.bst_meaning.specs.declared.value.Target.{Target}
use Rattle.bst_meaning.specs.declared.value.Target.TheVariants.{Named, Block}
use Rattle.bst_meaning.specs.declared.value.Value.{Value}
use Rattle.bst_meaning.specs.declared.value.Value.TheVariants.{Int, Str, Missing, Func}
use Rattle.bst_meaning.specs.declared.fault.Fault.{Fault}
use Rattle.bst_meaning.specs.declared.fault.Fault.TheVariants.{EmptyPop, WrongKind, NoEntry, StackLeft}
use Rattle.bst_meaning.specs.StyleParts.{kind_of, tokens_of, text_of, entered_tokens}
use Rattle.bst_meaning.specs.Config.{Config, Frame, Part, Whole, Testing, Turning, Variable, EntryState, Visit, Stopped, opening}
use Rattle.bst_meaning.specs.Effect.{Effect, Entered}
use Rattle.bst_meaning.specs.Operands.{is_positive}
use Rattle.bst_meaning.specs.Builtins.{Context, built_in}
use Rattle.bst_meaning.specs.Sorting.{sorted}

-- the place in the list of entries of the one that is next in a visit
abbrev pub next_index : Visit → ℕ → ℕ
next_index visit entries = if visit.backwards then entries - (visit.visited + 1) else visit.visited

-- the place of the visited entry: one is visited while a call of ITERATE or REVERSE runs
abbrev pub visited_index : Config → Option ℕ
visited_index c = if c.running then option_map (λ visit. next_index visit (length c.entries)) c.visit else None

-- the visited entry
abbrev pub visited_entry : Config → Option EntryState
visited_entry c = option_and_then (slice_get c.entries) (visited_index c)

-- stopped by a fault at a place
abbrev pub stopped_by : Fault → Place → Config → Config
stopped_by fault place c = record c {
  stopped = Some (record { fault = fault; site = record { place = place; entry = option_map (λ e. e.position) (visited_entry c) } });
}

-- a value is pushed
abbrev pub with_value : Value → Config → Config
with_value value c = record c { stack = value ∷ c.stack }

-- a target is entered at a place
abbrev pub with_frame : List TokenAt → Place → Part → Config → Config
with_frame tokens place part c = record c { frames = record { tokens = tokens; place = place; part = part } ∷ c.frames }

-- what a built-in function enters, where it enters something
abbrev pub with_entered : Style → Option Entered → Place → Config → Config
with_entered style None place c = c
with_entered style (Some entered) place c = with_frame (entered_tokens style entered.target place) place entered.part c

-- a variable by its name
abbrev pub value_at : ℕ → List Variable → Option Value
value_at id [] = None
value_at id (variable ∷ variables) = if nat_eq variable.name.0 id then Some variable.value else value_at id variables

-- variables with a new value for one of them
abbrev pub with_variable : Variable → List Variable → List Variable
with_variable new [] = []
with_variable new (variable ∷ variables) =
    if nat_eq variable.name.0 new.name.0 then new ∷ variables else variable ∷ with_variable new variables

-- entries with a new value for a variable of one of them
abbrev pub with_entry_variable : Variable → Option ℕ → List EntryState → List EntryState
with_entry_variable new None entries = entries
with_entry_variable new (Some at) entries =
    option_map_or (λ e. slice_set entries at (record e { variables = with_variable new e.variables })) (slice_get entries at) entries

-- an assignment, by the kind of the variable's name
abbrev pub assigned_by : Option Kind → Variable → Config → Config
assigned_by (Some IntEntry) new c = record c { entries = with_entry_variable new (visited_index c) c.entries }
assigned_by (Some StrEntry) new c = record c { entries = with_entry_variable new (visited_index c) c.entries }
assigned_by _ new c = record c { globals = with_variable new c.globals }

-- a variable of the configuration has its new value
abbrev pub with_assigned : Style → Option Variable → Config → Config
with_assigned style None c = c
with_assigned style (Some new) c = assigned_by (kind_of style new.name) new c

-- the effect of a built-in function that stands at a place
abbrev pub with_effect : Style → Result Effect Fault → Place → Config → Config
with_effect style (Err fault) place c = stopped_by fault place c
with_effect style (Ok effect) place c =
    with_entered style effect.entered place (with_assigned style effect.assigned
    (record c { stack = effect.stack; events = c.events ++ effect.wrote; log = c.log ++ effect.logged }))

-- what surrounds a call of a built-in function
abbrev pub context_of : Style → Config → Context
context_of style c = record { style = style; preamble = c.preamble; entry = option_map (λ e. e.entry) (visited_entry c) }

-- a value that may not be there
abbrev pub with_found : Option Value → Place → Config → Config
with_found None place c = stopped_by NoEntry place c
with_found (Some value) place c = with_value value c

-- the value of a field of an entry
abbrev pub field_value : NameId → Option (List ℕ) → Value
field_value name None = Missing name
field_value name (Some bytes) = Str bytes

-- the value of a field; one that isn't there is missing
abbrev pub field_in : NameId → List FieldValue → Value
field_in name [] = Missing name
field_in name (field ∷ fields) = if nat_eq field.name.0 name.0 then field_value name field.value else field_in name fields

-- a name is called
abbrev pub call_step : Style → Option Kind → NameId → Place → Config → Config
call_step style (Some (BuiltinKind op)) name place c = with_effect style (built_in op (context_of style c) c.stack) place c
call_step style (Some (Wizard body)) name place c = with_frame (tokens_of style body) place Whole c
call_step style (Some Field) name place c = with_found (option_map (λ e. field_in name e.entry.fields) (visited_entry c)) place c
call_step style (Some IntEntry) name place c = with_found (option_and_then (λ e. value_at name.0 e.variables) (visited_entry c)) place c
call_step style (Some StrEntry) name place c = with_found (option_and_then (λ e. value_at name.0 e.variables) (visited_entry c)) place c
call_step style (Some IntGlobal) name place c = with_found (value_at name.0 c.globals) place c
call_step style (Some StrGlobal) name place c = with_found (value_at name.0 c.globals) place c
call_step style None name place c = c

-- a token, which its frame no longer has
abbrev pub token_step : Style → Token → Place → Config → Config
token_step style (IntToken n) place c = with_value (Int n) c
token_step style (StrToken text) place c = with_value (Str (text_of style text)) c
token_step style (Quote name) place c = with_value (Func (Named name)) c
token_step style (BlockToken body) place c = with_value (Func (Block body)) c
token_step style (Call name) place c = call_step style (kind_of style name) name place c

-- the test of a `while$` has ended: it pops an integer, and above 0 the body is entered, else the loop ends
abbrev pub test_ended : Style → Target → Target → Place → List Value → Config → Config
test_ended style test body place [] c = stopped_by EmptyPop place c
test_ended style test body place (Int n ∷ stack) c =
    if is_positive n
    then with_frame (entered_tokens style body place) place (Turning test body) (record c { stack = stack })
    else record c { stack = stack }
test_ended style test body place (value ∷ stack) c = stopped_by WrongKind place c

-- the machine returns from a frame: after the body of a `while$` its test is entered again
abbrev pub return_step : Style → Part → Place → Config → Config
return_step style Whole place c = c
return_step style (Testing test body) place c = test_ended style test body place c.stack c
return_step style (Turning test body) place c = with_frame (entered_tokens style test place) place (Testing test body) c

-- the innermost frame has these tokens left: its first is executed, or the machine returns from it
abbrev pub frame_step : Style → Frame → List Frame → List TokenAt → Config → Config
frame_step style frame frames [] c = return_step style frame.part frame.place (record c { frames = frames })
frame_step style frame frames (t ∷ tokens) c =
    token_step style t.token t.place (record c { frames = record frame { tokens = tokens } ∷ frames })

-- a call of a command begins: its name is entered at the command's place
abbrev pub with_call : NameId → Place → Config → Config
with_call name place c = with_frame (record { token = Call name; place = place } ∷ []) place Whole (record c { running = true })

-- ITERATE or REVERSE visits the next entry, or is taken away where none is left
abbrev pub visit_step : NameId → Place → List CommandAt → Visit → Config → Config
visit_step name place commands visit c =
    if nat_lt visit.visited (length c.entries)
    then with_call name place (record c { visit = Some visit })
    else record c { commands = commands; visit = None }

-- how far a visit has come, which begins here where none goes on
abbrev pub visit_of : Bool → Option Visit → Visit
visit_of backwards None = record { backwards = backwards; visited = 0 }
visit_of backwards (Some visit) = visit

-- no call runs: a command begins, goes on or is taken away
abbrev pub command_step : Command → Place → List CommandAt → Config → Config
command_step (Execute name) place commands c = with_call name place c
command_step (Iterate name) place commands c = visit_step name place commands (visit_of false c.visit) c
command_step Read place commands c = record c { commands = commands }
command_step (Reverse name) place commands c = visit_step name place commands (visit_of true c.visit) c
command_step Sort place commands c = record c { commands = commands; entries = sorted c.entries }
command_step _ place commands c = record c { commands = commands }

-- a call has ended with an empty stack: an EXECUTE is taken away, and a visit counts its entry
abbrev pub call_ended : Option Visit → List CommandAt → Config → Config
call_ended None commands c = record c { running = false; commands = commands }
call_ended (Some visit) commands c = record c { running = false; visit = Some (record visit { visited = visit.visited + 1 }) }

-- the last frame of a call is gone: the call ends, and the literal stack is to be empty
abbrev pub call_end_step : List Value → Place → List CommandAt → Config → Config
call_end_step [] place commands c = call_ended c.visit commands c
call_end_step (value ∷ stack) place commands c = stopped_by StackLeft place c

-- no frame is left
abbrev pub outer_step : Bool → List CommandAt → Config → Config
outer_step running [] c = c
outer_step true (first ∷ commands) c = call_end_step c.stack first.place commands c
outer_step false (first ∷ commands) c = command_step first.command first.place commands c

-- a step of the innermost frame, or of the command where no frame is left
abbrev pub going_step : Style → List Frame → Config → Config
going_step style [] c = outer_step c.running c.commands c
going_step style (frame ∷ frames) c = frame_step style frame frames frame.tokens c

-- after a fault no step changes anything
abbrev pub unless_stopped : Option Stopped → Config → Config → Config
unless_stopped (Some stopped) now next = now
unless_stopped None now next = next

-- one step
abbrev pub step : Style → Config → Config
step style c = unless_stopped c.stopped c (going_step style c.frames c)

-- n steps from a configuration
abbrev pub steps : Style → ℕ → Config → Config
steps style zero c = c
steps style (suc n) c = steps style n (step style c)

-- the first n steps of the style's run over the list
abbrev pub run : Style → EntryList → ℕ → Config
run style list n = steps style n (opening style list)
