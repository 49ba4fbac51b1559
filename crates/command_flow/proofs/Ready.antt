-- Pieces that are ready start states with room, and may be shown.
use Rattle.std.proofs.Common.{◌*◌, ◌≤◌, Bool, true, List, [], ◌∷◌, length, Option, None, Some, refl, arith}
use Rattle.std.specs.Prelude.{IfSome}
use Rattle.std.specs.List.{All}
use Rattle.std.specs.Option.{ForSome}
use Rattle.std.proofs.lemmas.List.{length-map}
use Rattle.std.proofs.lemmas.List.Elements.{All-head, All-nil, All-tail, All-weaker}
use Rattle.std.proofs.lemmas.List.Sums.{sum_by-cons}
use Rattle.name_table.specs.Sound.{IsSound}
use Rattle.name_table.specs.declared.style.Style.{Style}
use Rattle.bst_meaning.specs.declared.condition.Cond.{Cond}
use Rattle.sym_state.specs.Positions.{Position, row_moved}
use Rattle.sym_state.specs.Starting.{IsFit, IsNumbered, all_symbols, started, symbols_of}
use Rattle.sym_state.specs.State.{State}
use Rattle.sym_state.specs.WellMade.{HasBounds, HasSmallFields}
use Rattle.sym_state.specs.declared.piece.Piece.{Piece}
use Rattle.cert_format.specs.declared.cert.CommandPart.{CommandPart}
use Rattle.cert_check.specs.Certified.{IsCommandOf, IsMovable, IsPieceOf}
use Rattle.cert_check.specs.Given.{CanEnd}
use Rattle.cert_check.specs.Room.{HasRoom, IsEnd}
use Rattle.cert_check.proofs.RoomLeft.{started_room}
use Rattle.command_flow.specs.Between.{nothing, piece_moved}
use Rattle.command_flow.specs.Commands.{given, parts_of}
use Rattle.command_flow.specs.Ready.{ArePartsReady, IsReady}
use Rattle.command_flow.proofs.Shaped.{fit_moved, given_rows, rows_below}

pub ready_ends : (style : Style) (piece : Piece) → IsReady style piece → CanEnd piece
ready_ends style piece ready = let lines = ready.short.lines in record { rows = ready.fit.rows; lines = omega (arith, lines) }

less_room : (style : Style) (state : State) → HasRoom style 65 0 state → HasRoom style 64 0 state
less_room style state room = let few = room.few in record { made = room.made; few = omega (arith, few) }

pub ready_moved : (style : Style) (p : Position) (piece : Piece) → IsReady style piece → All IsMovable piece.rows → IsReady style (piece_moved p piece)
ready_moved style p piece ready movable =
    let lines = ready.short.lines in
    let rows = length-map piece.rows (row_moved p) in
    record {
      short = record { stack = ready.short.stack; symbols = ready.short.symbols; lines = omega (arith, lines, rows) };
      numbered = record { facts = ready.numbered.facts; rows = rows_below p (symbols_of piece) piece.rows ready.numbered.rows };
      fit = fit_moved style p piece ready.fit movable;
    }

pub all_bounded : (style : Style) (states : List State) → All (IsEnd style) states → All HasBounds states
all_bounded style states ends = All-weaker (IsEnd style) HasBounds (λ state end. end.made.bounds) states ends

all_few : (style : Style) (pieces : List Piece) → All (IsReady style) pieces → all_symbols pieces ≤ 1000000 * length pieces
all_few style [] ready = omega arith
all_few style (piece ∷ pieces) ready =
    let here = (All-head (IsReady style) piece pieces ready).short.symbols in
    let rest = all_few style pieces (All-tail (IsReady style) piece pieces ready) in
    let all = sum_by-cons symbols_of piece pieces in
    omega (arith, here, rest, all)

pub few_symbols : (style : Style) (pieces : List Piece) → All (IsReady style) pieces → length pieces ≤ 2 → all_symbols pieces ≤ 2000000
few_symbols style pieces ready few = let all = all_few style pieces ready in omega (arith, few, all)

pub all_numbered : (style : Style) (pieces : List Piece) → All (IsReady style) pieces → All IsNumbered pieces
all_numbered style pieces ready = All-weaker (IsReady style) IsNumbered (λ piece one. one.numbered) pieces ready

pub pieces_room : (style : Style) (admits : Cond) (pieces : List Piece) (whole at_entry : Bool) → IsSound style → HasSmallFields admits → All (IsReady style) pieces
    → length pieces ≤ 2 → HasRoom style 64 0 (started style admits pieces whole at_entry)
pieces_room style admits pieces whole at_entry sound small ready few =
    let symbols = few_symbols style pieces ready few in
    less_room style (started style admits pieces whole at_entry)
    (started_room style admits pieces whole at_entry sound small (all_numbered style pieces ready)
    (All-weaker (IsReady style) (IsFit style) (λ piece one. one.fit) pieces ready) (omega (arith, symbols)))

pub nothing_ready : (style : Style) → IsReady style nothing
nothing_ready style = record {
  short = record { stack = omega arith; symbols = omega arith; lines = omega arith };
  numbered = record { facts = All-nil _; rows = All-nil _ };
  fit = record { of_style = All-nil _; integers = All-nil _; bytes = All-nil _; texts = All-nil _; rows = All-nil _ };
}

given_ready : (style : Style) (piece : Option Piece) → IfSome piece (IsPieceOf style true) → IsReady style (given piece)
given_ready style None is = nothing_ready style
given_ready style (Some piece) is = record { short = is.short; numbered = is.numbered; fit = is.fit }

-- what the record of a command gives
pub parts_ready : (style : Style) (part : Option CommandPart) → ForSome part (IsCommandOf style) → ArePartsReady style (parts_of part)
parts_ready style None is = record {
  after = nothing_ready style;
  visit = nothing_ready style;
  movable = All-nil _;
  keeps = nothing_ready style;
  hints = All-nil _;
}
parts_ready style (Some part) is =
    let has = is part refl in
    record {
      after = given_ready style part.after has.after;
      visit = given_ready style part.visit has.visit;
      movable = given_rows IsMovable part.visit has.moves;
      keeps = given_ready style part.keeps has.keeps;
      hints = has.hints;
    }
