-- How marks change from step to step (docs/MACHINE.md, "Lent and made strings").
use Rattle.std.specs.Prelude.{ℕ, zero, suc, Bool, false, if◌then◌else◌, List, [], ◌∷◌, slice_get, Option, None, Some, option_map, Result, Ok, Err}
use Rattle.std.specs.Option.{option_and_then}
use Rattle.name_table.specs.declared.builtin.Builtin.{Builtin}
use Rattle.name_table.specs.declared.builtin.Builtin.TheVariants as op
use Rattle.name_table.specs.declared.names.Kind.{Kind}
use Rattle.name_table.specs.declared.names.Kind.TheVariants.{Builtin as BuiltinKind, Field, IntEntry, StrEntry, IntGlobal, StrGlobal}
use Rattle.name_table.specs.declared.names.NameId.{NameId}
use Rattle.name_table.specs.declared.style.Command.{Command}
use Rattle.name_table.specs.declared.style.Command.TheVariants.{Sort}
use Rattle.name_table.specs.declared.style.CommandAt.{CommandAt}
use Rattle.name_table.specs.declared.style.Style.{Style}
use Rattle.name_table.specs.declared.style.Token.{Token}
use Rattle.name_table.specs.declared.style.Token.TheVariants.{Str as StrToken, Call}
use Rattle.name_table.specs.declared.style.TokenAt.{TokenAt}
use Rattle.bst_meaning.specs.declared.fault.Fault.{Fault}
use Rattle.bst_meaning.specs.declared.value.Target.TheVariants.{Named}
use Rattle.bst_meaning.specs.declared.value.Value.{Value}
use Rattle.bst_meaning.specs.declared.value.Value.TheVariants.{Int, Func}
use Rattle.bst_meaning.specs.Builtins.{built_in}
use Rattle.bst_meaning.specs.Config.{Config, Frame, Part, Stopped, Testing}
use Rattle.bst_meaning.specs.Effect.{Effect}
use Rattle.bst_meaning.specs.Machine.{context_of, field_in, step, visited_entry, visited_index}
use Rattle.bst_meaning.specs.StyleParts.{kind_of}
use Rattle.bst_step.specs.Marks.{Mark, NoString, Lent, Made, Marks, cleared, doubled, found, given_globally, given_in_entry, lent_mark, mark_at, pushed, resulting, sorted_marks, swapped, taken}
use Rattle.bst_step.specs.Moves.{is_of_entry}

-- the top is taken off, and given to a variable whose name is of a kind
abbrev pub given : Option Kind → NameId → Option ℕ → Marks → Marks
given kind name at m = if is_of_entry kind then given_in_entry name at m.stack m else given_globally name m.stack m

-- `:=`: the variable's name is taken off, and the value below it is given to the variable
abbrev pub assigned : Style → List Value → Option ℕ → Marks → Marks
assigned style (Func (Named name) ∷ stack) at m = given (kind_of style name) name at (taken 1 m)
assigned style _ at m = m

-- what each built-in function does to marks where it has no fault
abbrev pub built_in_marks : Builtin → Style → Config → Marks → Marks
built_in_marks op.Equal style c m = resulting 2 NoString m
built_in_marks op.Greater style c m = resulting 2 NoString m
built_in_marks op.Less style c m = resulting 2 NoString m
built_in_marks op.Plus style c m = resulting 2 NoString m
built_in_marks op.Minus style c m = resulting 2 NoString m
built_in_marks op.Join style c m = resulting 2 Made m
built_in_marks op.Assign style c m = assigned style c.stack (visited_index c) m
built_in_marks op.AddPeriod style c m = resulting 1 Made m
built_in_marks op.CallType style c m = m
built_in_marks op.ChangeCase style c m = resulting 2 Made m
built_in_marks op.ChrToInt style c m = resulting 1 NoString m
built_in_marks op.Cite style c m = pushed Lent m
built_in_marks op.Duplicate style c m = doubled m
built_in_marks op.Empty style c m = resulting 1 NoString m
built_in_marks op.FormatName style c m = resulting 3 Made m
built_in_marks op.IfElse style c m = taken 3 m
built_in_marks op.IntToChr style c m = resulting 1 Made m
built_in_marks op.IntToStr style c m = resulting 1 Made m
built_in_marks op.Missing style c m = resulting 1 NoString m
built_in_marks op.Newline style c m = m
built_in_marks op.NumNames style c m = resulting 1 NoString m
built_in_marks op.Pop style c m = taken 1 m
built_in_marks op.Preamble style c m = pushed Lent m
built_in_marks op.Purify style c m = resulting 1 Made m
built_in_marks op.Quote style c m = pushed Lent m
built_in_marks op.Skip style c m = m
built_in_marks op.Stack style c m = cleared m
built_in_marks op.Substring style c m = taken 2 m
built_in_marks op.Swap style c m = swapped m
built_in_marks op.TextLength style c m = resulting 1 NoString m
built_in_marks op.TextPrefix style c m = resulting 2 Made m
built_in_marks op.Top style c m = taken 1 m
built_in_marks op.TypeName style c m = pushed Lent m
built_in_marks op.Warning style c m = taken 1 m
built_in_marks op.WhileDo style c m = taken 2 m
built_in_marks op.Width style c m = resulting 1 NoString m
built_in_marks op.Write style c m = taken 1 m

-- after a fault they are as they were
abbrev pub unless_fault : Result Effect Fault → Marks → Marks → Marks
unless_fault (Ok effect) after before = after
unless_fault (Err fault) after before = before

-- the mark of a variable of the visited entry
abbrev pub visited_mark : ℕ → Config → Marks → Option Mark
visited_mark id c m = option_and_then (mark_at id) (option_and_then (slice_get m.entries) (visited_index c))

-- a name is called
abbrev pub call_marks : Style → Option Kind → NameId → Config → Marks → Marks
call_marks style (Some (BuiltinKind function)) name c m =
    unless_fault (built_in function (context_of style c) c.stack) (built_in_marks function style c m) m
call_marks style (Some Field) name c m = found (option_map (λ e. lent_mark (field_in name e.entry.fields)) (visited_entry c)) m
call_marks style (Some IntEntry) name c m = found (visited_mark name.0 c m) m
call_marks style (Some StrEntry) name c m = found (visited_mark name.0 c m) m
call_marks style (Some IntGlobal) name c m = found (mark_at name.0 m.globals) m
call_marks style (Some StrGlobal) name c m = found (mark_at name.0 m.globals) m
call_marks style _ name c m = m

-- a token is executed
abbrev pub token_marks : Style → Token → Config → Marks → Marks
token_marks style (StrToken text) c m = pushed Lent m
token_marks style (Call name) c m = call_marks style (kind_of style name) name c m
token_marks style _ c m = pushed NoString m

-- the test of a `while$` has ended: its integer is popped
abbrev pub test_marks : List Value → Marks → Marks
test_marks (Int n ∷ stack) m = taken 1 m
test_marks _ m = m

-- the machine returns from a frame
abbrev pub return_marks : Part → Config → Marks → Marks
return_marks (Testing test body) c m = test_marks c.stack m
return_marks _ c m = m

-- the innermost frame has these tokens left
abbrev pub frame_marks : Style → Part → List TokenAt → Config → Marks → Marks
frame_marks style part [] c m = return_marks part c m
frame_marks style part (t ∷ tokens) c m = token_marks style t.token c m

-- a command begins, goes on or is taken away
abbrev pub command_marks : Command → Config → Marks → Marks
command_marks Sort c m = record m { entries = sorted_marks c.entries m.entries }
command_marks _ c m = m

-- no frame is left
abbrev pub outer_marks : Bool → List CommandAt → Config → Marks → Marks
outer_marks false (first ∷ commands) c m = command_marks first.command c m
outer_marks _ _ c m = m

-- a step of the innermost frame, or of the command where no frame is left
abbrev pub going_marks : Style → List Frame → Config → Marks → Marks
going_marks style [] c m = outer_marks c.running c.commands c m
going_marks style (frame ∷ frames) c m = frame_marks style frame.part frame.tokens c m

-- after a fault no step changes anything
abbrev pub unless_stopped : Option Stopped → Marks → Marks → Marks
unless_stopped (Some stopped) before after = before
unless_stopped None before after = after

-- the marks after one step from a configuration
abbrev pub marks_after : Style → Config → Marks → Marks
marks_after style c m = unless_stopped c.stopped m (going_marks style c.frames c m)

-- the marks after n steps from a configuration
abbrev pub marks_after_steps : Style → ℕ → Config → Marks → Marks
marks_after_steps style zero c m = m
marks_after_steps style (suc n) c m = marks_after_steps style n (step style c) (marks_after style c m)
