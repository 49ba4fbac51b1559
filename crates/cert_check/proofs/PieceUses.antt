-- What a piece of a certificate gives where it starts a state or is shown.
use Rattle.std.proofs.Common.{ℕ, ◌*◌, ◌≤◌, Bool, List, [], ◌∷◌, length, arith}
use Rattle.std.specs.List.{All}
use Rattle.std.proofs.lemmas.List.Elements.{All-cons, All-head, All-nil, All-tail, All-weaker}
use Rattle.std.proofs.lemmas.List.Sums.{sum_by-cons}
use Rattle.name_table.specs.Sound.{IsSound}
use Rattle.name_table.specs.declared.style.Style.{Style}
use Rattle.bst_meaning.specs.declared.condition.Cond.{Cond}
use Rattle.sym_state.specs.State.{State}
use Rattle.sym_state.specs.Demands.{HasFewUses}
use Rattle.sym_state.specs.Showing.{CanShow}
use Rattle.sym_state.specs.Starting.{IsFit, IsNumbered, all_symbols, started, symbols_of}
use Rattle.sym_state.specs.WellMade.{HasSmallFields, WellMade}
use Rattle.sym_state.specs.declared.hint.Hint.{Hint}
use Rattle.sym_state.specs.declared.piece.Piece.{Piece}
use Rattle.cert_check.specs.Certified.{IsPieceOf}
use Rattle.cert_check.specs.Room.{HasRoom}
use Rattle.cert_check.specs.Walks.{Scope}
use Rattle.cert_check.proofs.RoomLeft.{room_on, started_room, started_wide}

-- a state may show it
pub piece_shows : (style : Style) (entry : Bool) (state : State) (piece : Piece) (hints : List Hint) → WellMade style state → IsPieceOf style entry piece
    → All HasFewUses hints → CanShow state piece hints
piece_shows style entry state piece hints made is short =
    let lines = is.short.lines in
    record { bounds = made.bounds; rows = is.fit.rows; lines = omega (arith, lines); proofs = short }

-- pieces start a state
all_few : (style : Style) (entry : Bool) (pieces : List Piece) → All (IsPieceOf style entry) pieces → all_symbols pieces ≤ 1000000 * length pieces
all_few style entry [] are = omega arith
all_few style entry (piece ∷ pieces) are =
    let here = (All-head (IsPieceOf style entry) piece pieces are).short.symbols in
    let rest = all_few style entry pieces (All-tail (IsPieceOf style entry) piece pieces are) in
    let all = sum_by-cons symbols_of piece pieces in
    omega (arith, here, rest, all)

pub pieces_start : (style : Style) (admits : Cond) (entry : Bool) (pieces : List Piece) (whole at_entry : Bool) → IsSound style → HasSmallFields admits
    → All (IsPieceOf style entry) pieces → length pieces ≤ 2000 → HasRoom style 65 0 (started style admits pieces whole at_entry)
pieces_start style admits entry pieces whole at_entry sound small are few =
    let symbols = all_few style entry pieces are in
    started_room style admits pieces whole at_entry sound small
    (All-weaker (IsPieceOf style entry) IsNumbered (λ piece is. is.numbered) pieces are) (All-weaker (IsPieceOf style entry) (IsFit style) (λ piece is. is.fit) pieces are)
    (omega (arith, symbols, few))

-- a case starts a turn of a loop, whatever was counted before
pub turn_room : (scope : Scope) (case : Piece) (whole entry : Bool) (count : ℕ) → IsSound scope.style → HasSmallFields scope.cert.cond
    → IsPieceOf scope.style entry case → HasRoom scope.style 129 count (started scope.style scope.cert.cond (case ∷ []) whole entry)
turn_room scope case whole entry count sound small is =
    let symbols = is.short.symbols in
    room_on scope.style 129 129 0 count (started scope.style scope.cert.cond (case ∷ []) whole entry) (omega arith) (omega arith)
    (started_wide scope.style scope.cert.cond (case ∷ []) whole entry sound small (All-cons IsNumbered case [] is.numbered (All-nil IsNumbered))
    (All-cons (IsFit scope.style) case [] is.fit (All-nil (IsFit scope.style))) (omega (arith, symbols)))
