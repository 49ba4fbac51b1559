-- The rules of commands (docs/CHECKER.md, "Commands"): from what stands before a command they give what stands after it, or the
-- first rule that fails.
use Rattle.std.specs.Prelude.{Bool, true, false, ◌&&◌, if◌then◌else◌, List, [], ◌∷◌, Option, None, Some, is_none, Result, Ok}
use Rattle.std.specs.List.{list_all}
use Rattle.std.specs.Option.{option_map_or}
use Rattle.bv_base.specs.Answers.{then_do}
use Rattle.bv_base.specs.declared.place.Place.{Place}
use Rattle.name_table.specs.declared.names.Kind.{Kind}
use Rattle.name_table.specs.declared.names.Kind.TheVariants.{Field, IntEntry, StrEntry}
use Rattle.name_table.specs.declared.names.NameId.{NameId}
use Rattle.name_table.specs.declared.style.Command.{Command}
use Rattle.name_table.specs.declared.style.Command.TheVariants.{Execute, Iterate, Reverse}
use Rattle.name_table.specs.declared.style.CommandAt.{CommandAt}
use Rattle.name_table.specs.declared.style.Style.{Style}
use Rattle.bst_meaning.specs.StyleParts.{kind_of}
use Rattle.bst_meaning.specs.declared.condition.Cond.{Cond}
use Rattle.bst_meaning.specs.declared.value.Target.TheVariants.{Named}
use Rattle.cert_format.specs.declared.cert.Cert.{Cert}
use Rattle.cert_format.specs.declared.cert.CommandPart.{CommandPart}
use Rattle.sym_state.specs.Positions.{AtStart, AtNext, AtEnd}
use Rattle.sym_state.specs.Showing.{piece_by}
use Rattle.sym_state.specs.Starting.{started}
use Rattle.sym_state.specs.State.{State}
use Rattle.sym_state.specs.WellMade.{is_variable}
use Rattle.sym_state.specs.declared.demand.DemandKind.TheVariants.{StackLeft}
use Rattle.sym_state.specs.declared.hint.Hint.{Hint}
use Rattle.sym_state.specs.declared.piece.Piece.{Piece}
use Rattle.sym_state.specs.declared.symbol.Sym.{Sym}
use Rattle.cert_check.specs.Courses.{placed, refuses}
use Rattle.cert_check.specs.Units.{call_walked, none_left}
use Rattle.cert_check.specs.declared.refusal.Reason.TheVariants.{Demand as Unmet, CommandShape}
use Rattle.cert_check.specs.declared.refusal.Refusal.{Refusal}
use Rattle.command_flow.specs.Between.{nothing, piece_moved}
use Rattle.command_flow.specs.declared.between.Between.{Between}
use Rattle.command_flow.specs.declared.between.Parts.{Parts}

-- the hints that are left, or the rule that fails
abbrev pub Left : Type 0
Left = Result (List Hint) Refusal

-- what stands after a command, or the rule that fails
abbrev pub Onward : Type 0
Onward = Result Between Refusal

-- a variable or a field of one entry
abbrev pub is_of_entry : Kind → Bool
is_of_entry Field = true
is_of_entry IntEntry = true
is_of_entry StrEntry = true
is_of_entry _ = false

-- no symbol is known on the stack
abbrev pub is_stackless : List Sym → Bool
is_stackless [] = true
is_stackless (s ∷ stack) = false

-- a global variable, or what an entry has
abbrev pub belongs : Bool → Kind → Bool
belongs true = is_variable false
belongs false = is_of_entry

-- the kind of a name passes a test
abbrev pub is_of_kind : Style → (Kind → Bool) → NameId → Bool
is_of_kind style test name = option_map_or test (kind_of style name) false

-- a piece without a stack, on names whose kind passes a test
abbrev pub is_about : Style → (Kind → Bool) → Piece → Bool
is_about style test piece =
    is_stackless piece.stack
    && (list_all (λ bind. is_of_kind style test bind.name) piece.vars && list_all (λ bind. is_of_kind style test bind.name) piece.fields)

-- such a piece, or none
abbrev pub is_about_some : Style → (Kind → Bool) → Option Piece → Bool
is_about_some style test piece = option_map_or (is_about style test) piece true

-- a piece on global variables, or none
abbrev pub is_on_globals : Style → Option Piece → Bool
is_on_globals style piece = is_about_some style (is_variable false) piece

-- a piece on what is an entry's, or none
abbrev pub is_on_entry : Style → Option Piece → Bool
is_on_entry style piece = is_about_some style is_of_entry piece

-- the pieces of a record fit its command: EXECUTE has what holds after it, ITERATE and REVERSE what holds before each visit and
-- what a visit keeps, and another command has no record
abbrev pub is_shaped : Style → Command → CommandPart → Bool
is_shaped style (Execute name) part = is_none part.visit && (is_none part.keeps && is_on_globals style part.after)
is_shaped style (Iterate name) part = is_none part.after && (is_on_globals style part.visit && is_on_entry style part.keeps)
is_shaped style (Reverse name) part = is_none part.after && (is_on_globals style part.visit && is_on_entry style part.keeps)
is_shaped style _ part = false

-- a piece that isn't given says nothing
abbrev pub given : Option Piece → Piece
given None = nothing
given (Some piece) = piece

-- the pieces and hints of a command's record: a command without one has none
abbrev pub parts_of : Option CommandPart → Parts
parts_of None = record { after = nothing; visit = nothing; keeps = nothing; hints = [] }
parts_of (Some part) = record { after = given part.after; visit = given part.visit; keeps = given part.keeps; hints = part.hints }

-- the literal stack is empty where a call ends
abbrev pub emptied : Place → List Sym → List Hint → Left
emptied place [] hints = Ok hints
emptied place (s ∷ stack) hints = refuses place (Unmet (record { kind = StackLeft; operand = 0 }))

-- a state entails a piece, where its rule stands at a place
abbrev pub piece_shown : Cond → Place → State → Piece → List Hint → Left
piece_shown cond place state piece hints = placed place (piece_by cond state piece 0 hints)

-- a state entails pieces, one after the other
abbrev pub pieces_shown : Cond → Place → State → List Piece → List Hint → Left
pieces_shown cond place state [] hints = Ok hints
pieces_shown cond place state (piece ∷ pieces) hints =
    then_do (piece_shown cond place state piece hints) (pieces_shown cond place state pieces)

-- a state at the end of a call has an empty stack and entails the pieces
abbrev pub state_ends : Cond → Place → List Piece → State → List Hint → Left
state_ends cond place pieces state hints = then_do (emptied place state.stack hints) (pieces_shown cond place state pieces)

-- each state at the end of a call, in order
abbrev pub call_ends : Cond → Place → List Piece → List State → List Hint → Left
call_ends cond place pieces [] hints = Ok hints
call_ends cond place pieces (state ∷ states) hints =
    then_do (state_ends cond place pieces state hints) (call_ends cond place pieces states)

-- a command's name is called from a state: each state at the end entails the pieces, and no hint is left
abbrev pub called : Style → Cert → NameId → Place → State → List Piece → List Hint → Left
called style cert name place state pieces hints =
    then_do (call_walked style cert (state ∷ []) (Named name) place hints) (λ course.
    then_do (call_ends cert.cond place pieces course.given course.hints) (none_left place))

-- a state of the global variables between commands
abbrev pub started_between : Style → Cond → Between → State
started_between style cond between = started style cond (between.globals ∷ []) true false

-- a state where a visit begins
abbrev pub started_visit : Style → Cond → Piece → Piece → State
started_visit style cond visit entry = started style cond (visit ∷ entry ∷ []) true true

-- EXECUTE: `after` holds after the call
abbrev pub executed : Style → Cert → NameId → Place → Parts → Between → Onward
executed style cert name place parts between =
    then_do (called style cert name place (started_between style cert.cond between) (parts.after ∷ []) parts.hints) (λ hints.
    Ok (record { globals = parts.after; entry = between.entry }))

-- `visit` holds of the global variables where no entry was visited
abbrev pub visit_begins : Style → Cond → Place → Piece → Piece → List Hint → Left
visit_begins style cond place visit globals hints =
    piece_shown cond place (started style cond (globals ∷ []) true false) (piece_moved AtStart visit) hints

-- ITERATE and REVERSE: `visit` holds where no entry was visited, and a visit leaves it for the next entry, and `keeps` of its own
abbrev pub visited : Style → Cert → NameId → Place → Parts → Between → Onward
visited style cert name place parts between =
    then_do (visit_begins style cert.cond place parts.visit between.globals parts.hints) (λ hints.
    then_do (called style cert name place (started_visit style cert.cond parts.visit between.entry)
    (piece_moved AtNext parts.visit ∷ parts.keeps ∷ []) hints) (λ left.
    Ok (record { globals = piece_moved AtEnd parts.visit; entry = parts.keeps })))

-- the rule of a command: READ, SORT and declarations change nothing that is known
abbrev pub command_checked : Style → Cert → Command → Place → Parts → Between → Onward
command_checked style cert (Execute name) place parts between = executed style cert name place parts between
command_checked style cert (Iterate name) place parts between = visited style cert name place parts between
command_checked style cert (Reverse name) place parts between = visited style cert name place parts between
command_checked style cert _ place parts between = Ok between

-- a command with its record, where they fit
abbrev pub command_taken : Style → Cert → CommandAt → Option CommandPart → Between → Onward
command_taken style cert at part between =
    if option_map_or (is_shaped style at.command) part true
    then command_checked style cert at.command at.place (parts_of part) between
    else refuses at.place CommandShape
