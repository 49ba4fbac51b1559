-- What a unit has that a state comes to by its pre and leaves by its posts: a summary, and a loop from one of its cases.
use Rattle.std.proofs.Common.{◌≡◌, ℕ, ◌≤◌, ◌<◌, Bool, max, List, subst, arith}
use Rattle.std.specs.List.{All}
use Rattle.std.proofs.lemmas.List.Elements.{All-weaker}
use Rattle.name_table.specs.declared.style.Style.{Style}
use Rattle.cert_format.specs.declared.cert.Loop.{Loop}
use Rattle.cert_format.specs.declared.cert.Summary.{Summary}
use Rattle.sym_state.specs.Facts.{subject}
use Rattle.sym_state.specs.Starting.{IsFit, IsNumbered, symbols_of}
use Rattle.sym_state.specs.WellMade.{IsTermBelow}
use Rattle.sym_state.specs.declared.piece.Piece.{Piece}
use Rattle.cert_check.specs.Certified.{AreWritten, IsLoopOf, IsPieceOf, IsPostOf, IsSummaryOf}
use Rattle.cert_check.specs.Left.{HasPlaces, IsPlaced, IsPost}
use Rattle.cert_check.specs.Uses.{Passage, around, passage}

-- a pre that says where its symbols are, and posts that share so many of them
pub record IsPassed (style : Style) (unit : Passage) (kept : ℕ) (pre : Piece) (posts : List Piece) : Type 0 where
  pub numbered : IsNumbered pre
  pub fit : IsFit style pre
  pub places : HasPlaces 0 (symbols_of pre) pre
  pub shares : kept ≤ symbols_of pre
  pub each : All (IsPostOf style unit kept) posts

pub summary_passed : (style : Style) (summary : Summary) → IsSummaryOf style summary
    → IsPassed style (passage summary) (symbols_of summary.pre) summary.pre summary.posts
summary_passed style summary is =
    record { numbered = is.numbered; fit = is.fit; places = is.places; shares = omega arith; each = is.posts }

-- a unit leaves by it: it shares no symbol with another piece
pub piece_post : (style : Style) (entry : Bool) (piece : Piece) → IsPieceOf style entry piece → IsPost style 0 piece
piece_post style entry piece is =
    let same : symbols_of piece ≡ max 0 (symbols_of piece) = omega arith in
    record {
      fit = is.fit;
      facts = subst (λ (n : ℕ). All (λ f. subject f < n) piece.facts) same is.numbered.facts;
      rows = subst (λ (n : ℕ). All (λ row. All (λ part. IsTermBelow n part.term) row.parts) piece.rows) same is.numbered.rows;
    }

pub piece_placed : (style : Style) (unit : Passage) (piece : Piece) → IsPieceOf style unit.entry piece → AreWritten style unit.entry unit.writes
    → IsPlaced style unit 0 piece
piece_placed style unit piece is writes =
    record { places = is.places; vars = is.vars; fields = is.fields; upwards = is.upwards; writes = writes.variables }

-- a loop from a case, whose exits share no symbol with it
pub loop_passed : (style : Style) (one : Loop) (case : Piece) → IsLoopOf style one → IsPieceOf style one.entry case
    → IsPassed style (around one) 0 case one.exits
loop_passed style one case is here = record {
  numbered = here.numbered;
  fit = here.fit;
  places = here.places;
  shares = omega arith;
  each = All-weaker (IsPieceOf style one.entry) (IsPostOf style (around one) 0) (λ exit its. record {
    short = its.short;
    fits = piece_post style one.entry exit its;
    placed = piece_placed style (around one) exit its is.writes;
  }) one.exits is.exits;
}

-- fewer symbols have their places
pub kept_places : (style : Style) (unit : Passage) (kept : ℕ) (pre : Piece) (posts : List Piece) → IsPassed style unit kept pre posts → HasPlaces 0 kept pre
kept_places style unit kept pre posts is s low less = let few = is.shares in is.places s low (omega (arith, less, few))
