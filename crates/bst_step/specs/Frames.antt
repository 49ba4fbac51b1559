-- The frames as the machine holds them, the innermost one apart, and its step once it has moved on (docs/MACHINE.md, "How it is run").
use Rattle.std.specs.Prelude.{◌≡◌, ◌++◌, Bool, true, false, List, [], ◌∷◌, Option, None, Some, is_some, if◌then◌else◌}
use Rattle.bv_base.specs.declared.place.Place.{Place}
use Rattle.name_table.specs.declared.names.NameId.{NameId}
use Rattle.name_table.specs.declared.style.Style.{Style}
use Rattle.name_table.specs.declared.style.Token.TheVariants.{Call as CallToken}
use Rattle.name_table.specs.declared.style.TokenAt.{TokenAt}
use Rattle.name_table.specs.Sound.{Each}
use Rattle.bst_meaning.specs.Config as config
use Rattle.bst_meaning.specs.Config.{Config}
use Rattle.bst_meaning.specs.Machine.{outer_step, return_step, token_step}
use Rattle.bst_step.specs.declared.frame_list.Next.{Next}
use Rattle.bst_step.specs.declared.frame_list.Next.TheVariants.{Token, Left, Return, Outer}
use Rattle.bst_step.specs.declared.state.Frame.{Frame}
use Rattle.bst_step.specs.declared.state.Part.{Part}
use Rattle.bst_step.specs.declared.state.Part.TheVariants.{Whole, Testing, Turning}
use Rattle.bst_step.specs.declared.state.Rest.{Rest}
use Rattle.bst_step.specs.declared.state.Rest.TheVariants.{Call, Tokens}
use Rattle.bst_step.specs.MarkRules.{outer_marks, return_marks, token_marks}
use Rattle.bst_step.specs.Marks.{Marks}
use Rattle.bst_step.specs.Room.{token_takes_room}

-- the frames, where the innermost one stands apart
abbrev pub frames_in : Bool → Frame → List Frame → List Frame
frames_in entered innermost outer = if entered then innermost ∷ outer else []

-- no frame is entered
abbrev pub has_none : List Frame → Bool
has_none [] = true
has_none (frame ∷ frames) = false

-- the part of a `while$` in the machine's definition
abbrev pub part_of : Part → config.Part
part_of Whole = config.Whole
part_of (Testing test body) = config.Testing test body
part_of (Turning test body) = config.Turning test body

-- the tokens of what is entered
abbrev pub tokens_left : Rest → List TokenAt
tokens_left (Call name place) = record { token = CallToken name; place = place } ∷ []
tokens_left (Tokens tokens) = tokens.now

-- the call that is left, as a token
abbrev pub call_left : Option (NameId × Place) → List TokenAt
call_left (Some call) = record { token = CallToken call.0; place = call.1 } ∷ []
call_left None = []

-- a frame
abbrev pub frame_of : Frame → config.Frame
frame_of f = record { tokens = f.tokens.now ++ call_left f.call; place = f.place; part = part_of f.part }

-- where a frame has a call left, it has no other token
abbrev pub StandsAlone : Frame → Type 0
StandsAlone f = is_some f.call ≡ true → f.tokens.now ≡ []

-- a call that is left stands alone, and where no frame is entered, no token and no frame is kept
abbrev pub AreKept : Bool → Frame → List Frame → Type 0
AreKept entered innermost outer =
    StandsAlone innermost × Each StandsAlone outer × (entered ≡ false → (innermost.tokens.now ≡ []) × (outer ≡ []))

-- what is left of a step, where the innermost frame has lost its first token, or is gone since it had none
abbrev pub with_next : Style → Next → Config → Config
with_next style (Token token place) c = token_step style token place c
with_next style Left c = c
with_next style (Return part place) c = return_step style (part_of part) place c
with_next style Outer c = outer_step c.running c.commands c

-- what becomes of marks in what is left of a step
abbrev pub marks_after_next : Style → Next → Config → Marks → Marks
marks_after_next style (Token token place) c m = token_marks style token c m
marks_after_next style Left c m = m
marks_after_next style (Return part place) c m = return_marks (part_of part) c m
marks_after_next style Outer c m = outer_marks c.running c.commands c m

-- what is left of a step takes room, and no other memory
abbrev pub next_takes_room : Style → Next → Config → Bool
next_takes_room style (Token token place) c = token_takes_room style token c
next_takes_room style Left c = true
next_takes_room style (Return part place) c = true
next_takes_room style Outer c = false
