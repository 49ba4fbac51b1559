-- Cases that may be written may be walked.
use Rattle.std.proofs.Common.{◌≡◌, sym, subst, arith}
use Rattle.std.specs.Prelude.{Bool, List}
use Rattle.std.specs.List.{All}
use Rattle.std.proofs.lemmas.List.Elements.{All-weaker}
use Rattle.name_table.specs.Sound.{IsSound}
use Rattle.name_table.specs.declared.style.Style.{Style}
use Rattle.sym_state.specs.declared.piece.Piece.{Piece}
use Rattle.loop_templates.specs.Candidates.{HasCases, IsCase}
use Rattle.loop_templates.specs.Cases.{Frame}
use Rattle.loop_templates.specs.declared.candidates.Added.{Added}
use Rattle.loop_templates.specs.declared.candidates.Candidate.{Candidate}
use Rattle.cert_check.specs.Certified.{IsPieceOf}
use Rattle.cert_check.proofs.ReadPieces.{piece_read}

pub case_piece : (frame : Frame) (case : Piece) → IsSound frame.style → IsCase frame case → IsPieceOf frame.style frame.at_entry case
case_piece frame case sound is =
    piece_read frame.style frame.at_entry frame.has_pos case (record { is = is.piece; texts = is.texts; small = omega arith; sound = sound })

first_there : (frame : Frame) (candidate : Candidate) → IsSound frame.style → HasCases frame candidate
    → All (IsPieceOf frame.style frame.at_entry) candidate.first
first_there frame candidate sound are =
    All-weaker (IsCase frame) (IsPieceOf frame.style frame.at_entry) (λ case is. case_piece frame case sound is) candidate.first are.first

added_there : (frame : Frame) (candidate : Candidate) → IsSound frame.style → HasCases frame candidate
    → All (λ one. IsPieceOf frame.style frame.at_entry one.case) candidate.added
added_there frame candidate sound are =
    All-weaker (λ (one : Added). IsCase frame one.case) (λ one. IsPieceOf frame.style frame.at_entry one.case) (λ one is. case_piece frame one.case sound is)
    candidate.added are.added

-- the same by a style and an entry that are the frame's
pub first_pieces : (frame : Frame) (style : Style) (entry : Bool) (candidate : Candidate) → IsSound frame.style → HasCases frame candidate
    → frame.style ≡ style → frame.at_entry ≡ entry → All (IsPieceOf style entry) candidate.first
first_pieces frame style entry candidate sound are same at =
    subst (λ (s : Style). All (IsPieceOf s entry) candidate.first) same
    (subst (λ (e : Bool). All (IsPieceOf frame.style e) candidate.first) at (first_there frame candidate sound are))

pub added_pieces : (frame : Frame) (style : Style) (entry : Bool) (candidate : Candidate) → IsSound frame.style → HasCases frame candidate
    → frame.style ≡ style → frame.at_entry ≡ entry → All (λ one. IsPieceOf style entry one.case) candidate.added
added_pieces frame style entry candidate sound are same at =
    subst (λ (s : Style). All (λ (one : Added). IsPieceOf s entry one.case) candidate.added) same
    (subst (λ (e : Bool). All (λ (one : Added). IsPieceOf frame.style e one.case) candidate.added) at (added_there frame candidate sound are))
