-- What commands leave stands in a certificate, and is ready for what comes after them.
use Rattle.std.proofs.Common.{◌≡◌, ◌≢◌, ℕ, ◌≤◌, Bool, true, false, ◌&&◌, List, [], ◌∷◌, length, Option, None, Some, IfSome, ap, refl, sym, subst, arith}
use Rattle.std.specs.List.{All, list_all}
use Rattle.std.proofs.lemmas.List.Elements.{All-cons, All-head, All-nil, All-tail, All-weaker}
use Rattle.name_table.specs.Sound.{Each, IsSound}
use Rattle.name_table.specs.declared.names.NameId.{NameId}
use Rattle.name_table.specs.declared.style.Style.{Style}
use Rattle.bst_meaning.specs.declared.condition.Cond.{Cond}
use Rattle.cert_format.specs.CertText.{IsHint, IsPiece, IsVariable}
use Rattle.cert_format.specs.CondText.{IsField}
use Rattle.cert_format.proofs.Plain.{each_append}
use Rattle.sym_state.specs.State.{State}
use Rattle.sym_state.specs.WellMade.{WellMade}
use Rattle.sym_state.specs.declared.piece.Piece.{Piece}
use Rattle.sym_state.specs.declared.symbol.Bind.{Bind}
use Rattle.sym_state.specs.declared.symbol.Sym.{Sym}
use Rattle.straight_hints.specs.declared.finding.Finding.TheVariants.{Straight}
use Rattle.straight_hints.proofs.Written.{piece_written}
use Rattle.loop_templates.specs.Candidates.{CanMatch}
use Rattle.loop_templates.specs.Cases.{Frame, IsFrame}
use Rattle.loop_templates.specs.Reaching.{command_terms, occurring_anywhere}
use Rattle.loop_templates.specs.Visits.{common_case, is_left, left_by}
use Rattle.loop_templates.proofs.FewTerms.{sums_small}
use Rattle.loop_templates.proofs.Over.{command_sums_over}
use Rattle.loop_templates.proofs.Standing.{common_is_case, fewer_rows}
use Rattle.cert_check.specs.Certified.{IsMovable, IsPieceOf}
use Rattle.cert_check.specs.Room.{IsEnd}
use Rattle.cert_check.proofs.ReadPieces.{each_each, piece_read, read_movable}
use Rattle.command_flow.specs.Ready.{IsReady}
use Rattle.command_flow.specs.Templates.{IsLeft, IsVisit, ends_hints, frame_left, left_in, pieces_hints}
use Rattle.command_flow.specs.declared.leaving.Leaving.{Leaving}

-- what stands in a certificate for no entry stands there for one
none_else : (b : Bool) → b && false ≡ false
none_else true = refl
none_else false = refl

wider : (style : Style) (at_entry has_pos : Bool) (next : ℕ) (piece : Piece) → IsPiece style at_entry has_pos next piece → IsPiece style true has_pos next piece
wider style true has_pos next piece is = is
wider style false has_pos next piece is = record {
  placed = is.placed;
  few_symbols = is.few_symbols;
  vars = each_each (λ (bind : Bind). IsVariable false style.names bind.name) (λ bind. IsVariable true style.names bind.name)
      (λ bind one. (one.0, none_else _)) piece.vars is.vars;
  vars_rise = is.vars_rise;
  fields = each_each (λ (bind : Bind). IsField style.names bind.name × (false ≡ true)) (λ bind. IsField style.names bind.name × (true ≡ true))
      (λ bind one. (one.0, refl)) piece.fields is.fields;
  fields_rise = is.fields_rise;
  facts = is.facts;
  few_facts = is.few_facts;
  rows = is.rows;
  few_rows = is.few_rows;
}

-- what states have in common
pub case_left : (frame : Frame) (states : List State) (case : Piece) → case ≡ common_case frame states → IsFrame frame → IsLeft frame.style frame.has_pos case
case_left frame states case is ready =
    let stands = common_is_case frame states case is ready in
    record {
      stands = wider frame.style frame.at_entry frame.has_pos 0 case stands.piece;
      texts = stands.texts;
      bare = subst (λ (it : Piece). it.stack ≡ []) (sym is) refl;
    }

-- it is a piece of the style
pub left_of_style : (style : Style) (has_pos : Bool) (piece : Piece) → IsSound style → IsLeft style has_pos piece → IsPieceOf style true piece
left_of_style style has_pos piece sound is =
    piece_read style true has_pos piece (record { is = is.stands; texts = is.texts; small = omega arith; sound = sound })

pub left_ready : (style : Style) (has_pos : Bool) (piece : Piece) → IsSound style → IsLeft style has_pos piece → IsReady style piece
left_ready style has_pos piece sound is =
    let of_style = left_of_style style has_pos piece sound is in
    record { short = of_style.short; numbered = of_style.numbered; fit = of_style.fit }

pub left_movable : (style : Style) (has_pos : Bool) (piece : Piece) → IsLeft style has_pos piece → All IsMovable piece.rows
left_movable style has_pos piece is = read_movable style true has_pos 0 piece is.stands

-- it may stand before visits, also without some of its rows
pub left_visit : (style : Style) (piece : Piece) → IsSound style → IsLeft style true piece → IsVisit style piece
left_visit style piece sound is = record {
  left = is;
  ready = left_ready style true piece sound is;
  movable = left_movable style true piece is;
  bare = is.bare;
}

pub fewer_left : (style : Style) (admits : Cond) (states : List State) (visit : Piece) → IsSound style → IsVisit style visit → IsVisit style (left_by admits states visit)
fewer_left style admits states visit sound is =
    left_visit style (left_by admits states visit) sound (record {
      stands = fewer_rows style true true 0 visit (λ row. list_all (is_left admits visit row) states) is.left.stands;
      texts = is.left.texts;
      bare = is.bare;
    })

-- the frame of what a command leaves
pub frame_ready : (style : Style) (admits : Cond) (name : NameId) (leaving : Leaving) (start : State) → IsSound style → WellMade style start
    → (leaving.bound.entry ≡ true → leaving.at_entry ≡ true) → IsFrame (frame_left style admits name leaving start)
frame_ready style admits name leaving start sound made there = record {
  sound = sound;
  entering = All-cons (WellMade style) start [] made (All-nil (WellMade style));
  some = omega arith;
  there = there;
  sums = sums_small (command_terms style (occurring_anywhere style) leaving.bound leaving.has_pos);
  over = command_sums_over style (occurring_anywhere style) leaving.bound leaving.has_pos;
}

-- what it leaves, where there is something
pub some_left : (frame : Frame) (states : List State) → IsFrame frame → IfSome (left_in frame states) (IsLeft frame.style frame.has_pos)
some_left frame [] ready = tt
some_left frame (state ∷ states) ready = case_left frame (state ∷ states) (common_case frame (state ∷ states)) refl ready

pub left_in_stands : (frame : Frame) (states : List State) (left : Option Piece) → left ≡ left_in frame states → IsFrame frame
    → IfSome left (IsLeft frame.style frame.has_pos)
left_in_stands frame states left is ready =
    subst (λ (it : Option Piece). IfSome it (IsLeft frame.style frame.has_pos)) (sym is) (some_left frame states ready)

-- the hints at the ends of a call may be written
pieces_written : (admits : Cond) (pieces : List Piece) (state : State) → state.next ≤ 4294967296 → Each IsHint (pieces_hints admits pieces state)
pieces_written admits [] state few = tt
pieces_written admits (piece ∷ pieces) state few =
    each_append IsHint _ _ (piece_written Straight admits state piece few) (pieces_written admits pieces state few)

pub ends_written : (style : Style) (admits : Cond) (pieces : List Piece) (states : List State) → All (IsEnd style) states
    → Each IsHint (ends_hints admits pieces states)
ends_written style admits pieces [] ends = tt
ends_written style admits pieces (state ∷ states) ends =
    let few = (All-head (IsEnd style) state states ends).few in
    each_append IsHint _ _ (pieces_written admits pieces state (omega (arith, few)))
    (ends_written style admits pieces states (All-tail (IsEnd style) state states ends))

-- where no state comes to an end nothing is left, and else what they have in common
pub none_left : (frame : Frame) (states : List State) → length states ≡ 0 → None ≡ left_in frame states
none_left frame [] none = refl
none_left frame (state ∷ states) none = absurd (omega (arith, none))

pub some_is_left : (frame : Frame) (states : List State) (case : Piece) → length states ≢ 0 → case ≡ common_case frame states → Some case ≡ left_in frame states
some_is_left frame [] case some is = absurd (some refl)
some_is_left frame (state ∷ states) case some is = ap (λ (it : Piece). Some it) is

-- states at the end of a call may show a piece without a stack
pub ends_match : (style : Style) (piece : Piece) (states : List State) → piece.stack ≡ [] → All (IsEnd style) states → All (CanMatch (length piece.stack)) states
ends_match style piece states bare ends =
    let none : length piece.stack ≡ 0 = ap (λ (stack : List Sym). length stack) bare in
    All-weaker (IsEnd style) (CanMatch (length piece.stack)) (λ state end. (end.made.bounds, omega (arith, none))) states ends
