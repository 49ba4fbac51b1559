-- The steps that take room for one value and one frame at most, and no other memory (docs/MACHINE.md, "Room").
use Rattle.std.specs.Prelude.{◌≡◌, ℕ, zero, suc, Bool, true, false, List, [], ◌∷◌, Option, None, Some, Result, Ok, Err}
use Rattle.name_table.specs.declared.builtin.Builtin.{Builtin}
use Rattle.name_table.specs.declared.builtin.Builtin.TheVariants as op
use Rattle.name_table.specs.declared.names.Kind.{Kind}
use Rattle.name_table.specs.declared.names.Kind.TheVariants.{Builtin as BuiltinKind}
use Rattle.name_table.specs.declared.style.Style.{Style}
use Rattle.name_table.specs.declared.style.Token.{Token}
use Rattle.name_table.specs.declared.style.Token.TheVariants.{Call}
use Rattle.name_table.specs.declared.style.TokenAt.{TokenAt}
use Rattle.bst_meaning.specs.declared.fault.Fault.{Fault}
use Rattle.bst_meaning.specs.Builtins.{built_in}
use Rattle.bst_meaning.specs.Config.{Config, Frame}
use Rattle.bst_meaning.specs.Effect.{Effect}
use Rattle.bst_meaning.specs.Machine.{context_of, step}
use Rattle.bst_meaning.specs.StyleParts.{kind_of}
use Rattle.bst_step.specs.declared.stop.Stop.{Stop}
use Rattle.bst_step.specs.declared.stop.Stop.TheVariants.{Fault as Faulted, NoMemory}

-- nothing is logged
abbrev pub is_nothing : List (List ℕ) → Bool
is_nothing [] = true
is_nothing (line ∷ lines) = false

-- an assignment cuts nothing: it logs nothing, or is an execution error
abbrev pub cuts_nothing : Result Effect Fault → Bool
cuts_nothing (Err fault) = true
cuts_nothing (Ok effect) = is_nothing effect.logged

-- a built-in function, with its effect or its fault
abbrev pub built_in_takes_room : Builtin → Result Effect Fault → Bool
built_in_takes_room op.Equal effect = true
built_in_takes_room op.Greater effect = true
built_in_takes_room op.Less effect = true
built_in_takes_room op.Plus effect = true
built_in_takes_room op.Minus effect = true
built_in_takes_room op.Assign effect = cuts_nothing effect
built_in_takes_room op.Cite effect = true
built_in_takes_room op.Duplicate effect = true
built_in_takes_room op.Empty effect = true
built_in_takes_room op.IfElse effect = true
built_in_takes_room op.Missing effect = true
built_in_takes_room op.NumNames effect = true
built_in_takes_room op.Pop effect = true
built_in_takes_room op.Preamble effect = true
built_in_takes_room op.Quote effect = true
built_in_takes_room op.Skip effect = true
built_in_takes_room op.Substring effect = true
built_in_takes_room op.Swap effect = true
built_in_takes_room op.TextLength effect = true
built_in_takes_room op.TypeName effect = true
built_in_takes_room op.WhileDo effect = true
built_in_takes_room op.Width effect = true
built_in_takes_room _ effect = false

-- a call of a name of a kind
abbrev pub call_takes_room : Style → Option Kind → Config → Bool
call_takes_room style None c = false
call_takes_room style (Some (BuiltinKind function)) c = built_in_takes_room function (built_in function (context_of style c) c.stack)
call_takes_room style (Some kind) c = true

-- a token
abbrev pub token_takes_room : Style → Token → Config → Bool
token_takes_room style (Call name) c = call_takes_room style (kind_of style name) c
token_takes_room style _ c = true

-- the first token of a frame, or the return from it
abbrev pub tokens_take_room : Style → List TokenAt → Config → Bool
tokens_take_room style [] c = true
tokens_take_room style (t ∷ tokens) c = token_takes_room style t.token c

-- a step of the innermost frame
abbrev pub frames_take_room : Style → List Frame → Config → Bool
frames_take_room style [] c = false
frames_take_room style (frame ∷ frames) c = tokens_take_room style frame.tokens c

-- the next step
abbrev pub step_takes_room : Style → Config → Bool
step_takes_room style c = frames_take_room style c.frames c

-- each of the next n steps
abbrev pub TakeRoom : Style → ℕ → Config → Type 0
TakeRoom style zero c = Unit {0}
TakeRoom style (suc n) c = (step_takes_room style c ≡ true) × TakeRoom style n (step style c)

-- it isn't refused for want of memory
abbrev pub Fits : {A : Type 0} → Result A Stop → Type 0
Fits (Ok done) = Unit {0}
Fits (Err (Faulted fault)) = Unit {0}
Fits (Err NoMemory) = ⊥
