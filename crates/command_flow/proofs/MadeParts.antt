-- What is made for a command stands in a certificate, and what stands behind it may last.
use Rattle.std.proofs.Common.{◌≡◌, ℕ, ◌<◌, Bool, true, false, List, [], ◌∷◌, ◌++◌, length, Option, None, Some, IfSome, ap, refl, sym, subst, ◌∙◌, arith}
use Rattle.std.specs.List.{All}
use Rattle.std.proofs.lemmas.List.{length-append}
use Rattle.std.proofs.lemmas.List.Elements.{All-append, All-cons, All-nil}
use Rattle.name_table.specs.Sound.{Each, IsSound}
use Rattle.name_table.specs.declared.names.NameId.{NameId}
use Rattle.name_table.specs.declared.style.Style.{Style}
use Rattle.bst_meaning.specs.declared.condition.Cond.{Cond}
use Rattle.cert_format.specs.CertText.{IsCommandPart, IsHint, IsPiece}
use Rattle.cert_format.specs.declared.cert.CommandPart.{CommandPart}
use Rattle.cert_format.proofs.Plain.{each_append}
use Rattle.sym_state.specs.Positions.{AtEnd, AtNext, AtStart}
use Rattle.sym_state.specs.WellMade.{HasSmallFields}
use Rattle.sym_state.specs.declared.hint.Hint.{Hint}
use Rattle.sym_state.specs.declared.piece.Piece.{Piece}
use Rattle.straight_hints.specs.Found.{piece_hints}
use Rattle.straight_hints.specs.declared.finding.Finding.TheVariants.{Straight}
use Rattle.straight_hints.proofs.Written.{piece_written}
use Rattle.cert_check.specs.Certified.{IsCommandOf, IsStanding}
use Rattle.cert_check.specs.Given.{CanEnd}
use Rattle.cert_check.specs.Room.{HasRoom}
use Rattle.cert_check.proofs.Certifying.{command_read}
use Rattle.cert_check.proofs.ReadTexts.{HasShortTexts}
use Rattle.command_flow.specs.Between.{piece_moved}
use Rattle.command_flow.specs.Commands.{given, started_between, started_visit}
use Rattle.command_flow.specs.Ready.{IsReady}
use Rattle.command_flow.specs.Templates.{AreMadeAt, CanLast, HasCalled, HasMade, IsLeft, IsVisit, after_execute, after_visit, ends_hints, executed_by, executed_parts, frame_left, left_in, visited_by}
use Rattle.command_flow.specs.declared.templates.Lasting.{Lasting}
use Rattle.command_flow.specs.declared.templates.Visits.{Visits}
use Rattle.cert_check.specs.declared.checker.Called.{Called}
use Rattle.command_flow.proofs.LeftPieces.{ends_written, frame_ready, left_ready, some_left}
use Rattle.command_flow.proofs.Ready.{nothing_ready, pieces_room, ready_ends, ready_moved}

-- a piece that may be left
left_texts : (style : Style) (has_pos : Bool) (piece : Option Piece) → IfSome piece (IsLeft style has_pos) → IfSome piece HasShortTexts
left_texts style has_pos None is = tt
left_texts style has_pos (Some piece) is = is.texts

left_stands : (style : Style) (has_pos : Bool) (piece : Option Piece) → IfSome piece (IsLeft style has_pos) → IfSome piece (IsPiece style true has_pos 0)
left_stands style has_pos None is = tt
left_stands style has_pos (Some piece) is = is.stands

pub given_left : (style : Style) (has_pos : Bool) (piece : Option Piece) → IsSound style → IfSome piece (IsLeft style has_pos) → IsReady style (given piece)
given_left style has_pos None sound is = nothing_ready style
given_left style has_pos (Some piece) sound is = left_ready style has_pos piece sound is

pub given_bare : (style : Style) (has_pos : Bool) (piece : Option Piece) → IfSome piece (IsLeft style has_pos) → (given piece).stack ≡ []
given_bare style has_pos None is = refl
given_bare style has_pos (Some piece) is = is.bare

-- what is known by it
pub known_ready : (style : Style) (has_pos : Bool) (piece : Option Piece) (known : Piece) → IsSound style → IfSome piece (IsLeft style has_pos)
    → known ≡ given piece → IsReady style known
known_ready style has_pos piece known sound left is = subst (IsReady style) (sym is) (given_left style has_pos piece sound left)

pub known_bare : (style : Style) (has_pos : Bool) (piece : Option Piece) (known : Piece) → IfSome piece (IsLeft style has_pos) → known ≡ given piece
    → known.stack ≡ []
known_bare style has_pos piece known left is = ap (λ (it : Piece). it.stack) is ∙ given_bare style has_pos piece left

-- pieces that are shown where a call ends
pub one_ends : (style : Style) (piece : Piece) (pieces : List Piece) → IsReady style piece → pieces ≡ piece ∷ [] → All CanEnd pieces
one_ends style piece pieces ready are = subst (All CanEnd) (sym are) (All-cons CanEnd piece [] (ready_ends style piece ready) (All-nil CanEnd))

pub one_bare : (piece : Piece) (pieces : List Piece) → piece.stack ≡ [] → pieces ≡ piece ∷ [] → All (λ it. it.stack ≡ []) pieces
one_bare piece pieces bare are =
    subst (All (λ (it : Piece). it.stack ≡ [])) (sym are) (All-cons (λ (it : Piece). it.stack ≡ []) piece [] bare (All-nil (λ (it : Piece). it.stack ≡ [])))

pub two_end : (style : Style) (one two : Piece) → IsReady style one → IsReady style two → All CanEnd (one ∷ (two ∷ []))
two_end style one two first second =
    All-cons CanEnd one (two ∷ []) (ready_ends style one first) (All-cons CanEnd two [] (ready_ends style two second) (All-nil CanEnd))

-- the record of a command
one_part : (style : Style) (index : ℕ) (after visit keeps : Option Piece) (hints : List Hint) → IsSound style → index < length style.commands
    → IfSome after (IsLeft style false) → IfSome visit (IsLeft style true) → IfSome keeps (IsLeft style false) → Each IsHint hints
    → AreMadeAt style index (record { index = index; after = after; visit = visit; keeps = keeps; hints = hints } ∷ [])
one_part style index after visit keeps hints sound there is_after is_visit is_keeps written =
    let most = sound.few_commands in
    let part : CommandPart = record { index = index; after = after; visit = visit; keeps = keeps; hints = hints } in
    let stands : IsCommandPart style part = record {
      there = there;
      small = omega (arith, there, most);
      after = left_stands style false after is_after;
      visit = left_stands style true visit is_visit;
      keeps = left_stands style false keeps is_keeps;
      hints = written;
    } in
    record {
      each = (stands, tt);
      of_style = All-cons (IsCommandOf style) part [] (command_read style part sound stands (record {
        after = left_texts style false after is_after;
        visit = left_texts style true visit is_visit;
        keeps = left_texts style false keeps is_keeps;
      }))
          (All-nil (IsCommandOf style));
      at = (refl, tt);
      few = omega arith;
    }

pub no_part : (style : Style) (index : ℕ) → AreMadeAt style index []
no_part style index = record { each = tt; of_style = All-nil (IsCommandOf style); at = tt; few = omega arith }

execute_parts : (style : Style) (index : ℕ) (after : Option Piece) (hints : List Hint) → IsSound style → index < length style.commands
    → IfSome after (IsLeft style false) → Each IsHint hints → AreMadeAt style index (executed_parts index after hints)
execute_parts style index None [] sound there is written = no_part style index
execute_parts style index None (hint ∷ hints) sound there is written = one_part style index None None None (hint ∷ hints) sound there tt tt tt written
execute_parts style index (Some piece) hints sound there is written = one_part style index (Some piece) None None hints sound there is tt tt written

-- EXECUTE
pub executed_made : (style : Style) (admits : Cond) (index : ℕ) (name : NameId) (lasting : Lasting) (called : Called) → IsSound style → HasSmallFields admits
    → index < length style.commands → CanLast style lasting → HasCalled style (length lasting.loops) called → HasMade style index (executed_by style admits index name lasting called)
executed_made style admits index name lasting called sound small there last has =
    let start = started_between style admits lasting.between in
    let room = pieces_room style admits (lasting.between.globals ∷ []) true false sound small
    (All-cons (IsReady style) lasting.between.globals [] last.ready.globals (All-nil (IsReady style))) (omega arith) in
    let frame = frame_left style admits name after_execute start in
    let after = left_in frame called.given in
    let left = some_left frame called.given (frame_ready style admits name after_execute start sound room.made (λ none. absurd (cc))) in
    record {
      parts = execute_parts style index after (called.found ++ ends_hints admits (given after ∷ []) called.given) sound there left
          (each_append IsHint called.found (ends_hints admits (given after ∷ []) called.given) has.found
          (ends_written style admits (given after ∷ []) called.given has.given));
      lasting = record {
        ready = record { globals = given_left style false after sound left; entry = last.ready.entry };
        loops = All-append (IsStanding style) lasting.loops called.loops last.loops has.loops;
        few = let all = length-append lasting.loops called.loops in let most = has.few in omega (arith, all, most);
      };
    }

-- ITERATE and REVERSE
pub visited_made : (style : Style) (admits : Cond) (index : ℕ) (name : NameId) (lasting : Lasting) (found : Visits) → IsSound style → HasSmallFields admits
    → index < length style.commands → CanLast style lasting → IsVisit style found.visit → HasCalled style (length lasting.loops) found.calling
    → HasMade style index (visited_by style admits index name lasting found)
visited_made style admits index name lasting found sound small there last visit has =
    let before = started_between style admits lasting.between in
    let start = started_visit style admits found.visit lasting.between.entry in
    let begun : HasRoom style 64 0 before = pieces_room style admits (lasting.between.globals ∷ []) true false sound small
    (All-cons (IsReady style) lasting.between.globals [] last.ready.globals (All-nil (IsReady style))) (omega arith) in
    let room : HasRoom style 64 0 start = pieces_room style admits (found.visit ∷ (lasting.between.entry ∷ [])) true true sound small
    (All-cons (IsReady style) found.visit (lasting.between.entry ∷ []) visit.ready
    (All-cons (IsReady style) lasting.between.entry [] last.ready.entry (All-nil (IsReady style)))) (omega arith) in
    let frame = frame_left style admits name after_visit start in
    let keeps = left_in frame found.calling.given in
    let left = some_left frame found.calling.given (frame_ready style admits name after_visit start sound room.made (λ entry. refl)) in
    let ends = piece_moved AtNext found.visit ∷ (given keeps ∷ []) in
    let first = piece_hints Straight admits before (piece_moved AtStart found.visit) in
    let few = begun.few in
    record {
      parts = one_part style index None (Some found.visit) keeps (first ++ (found.calling.found ++ ends_hints admits ends found.calling.given)) sound there tt
          visit.left left
          (each_append IsHint first (found.calling.found ++ ends_hints admits ends found.calling.given)
          (piece_written Straight admits before (piece_moved AtStart found.visit) (omega (arith, few)))
          (each_append IsHint found.calling.found (ends_hints admits ends found.calling.given) has.found
          (ends_written style admits ends found.calling.given has.given)));
      lasting = record {
        ready = record {
          globals = ready_moved style AtEnd found.visit visit.ready visit.movable;
          entry = given_left style false keeps sound left;
        };
        loops = All-append (IsStanding style) lasting.loops found.calling.loops last.loops has.loops;
        few = let all = length-append lasting.loops found.calling.loops in let most = has.few in omega (arith, all, most);
      };
    }
