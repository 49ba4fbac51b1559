-- What a walk asks of a certificate (docs/CHECKER.md, "Certificates"): what every certificate that was read for the style has.
use Rattle.std.specs.Prelude.{◌≡◌, ◌≢◌, ℕ, ◌+◌, ◌<◌, ◌≤◌, ◌^◌, Bool, true, false, nat_lt, List, length, Option, IfSome}
use Rattle.std.specs.List.{All}
use Rattle.std.specs.Option.{option_map_or}
use Rattle.lin_facts.specs.declared.row.Row.{Row}
use Rattle.lin_facts.specs.declared.row.Term.TheVariants.{Pos}
use Rattle.name_table.specs.Sound.{IsSound}
use Rattle.name_table.specs.declared.names.NameId.{NameId}
use Rattle.name_table.specs.declared.style.Style.{Style}
use Rattle.bst_meaning.specs.StyleParts.{kind_of}
use Rattle.cert_format.specs.CertText.{IsLoop, IsNameable}
use Rattle.bst_meaning.specs.declared.value.Target.{Target}
use Rattle.cert_format.specs.CondText.{is_chain}
use Rattle.cert_format.specs.declared.cert.Cert.{Cert}
use Rattle.cert_format.specs.declared.cert.CommandPart.{CommandPart}
use Rattle.cert_format.specs.declared.cert.Loop.{Loop}
use Rattle.cert_format.specs.declared.cert.Summary.{Summary}
use Rattle.sym_state.specs.Demands.{HasFewUses}
use Rattle.sym_state.specs.Entailing.{line_count}
use Rattle.sym_state.specs.Positions.{position_sizes}
use Rattle.sym_state.specs.Starting.{IsFit, IsNumbered, has_kind, symbols_of}
use Rattle.sym_state.specs.WellMade.{HasSmallFields, HasSmallLimits, WellMade, is_field, is_variable, size}
use Rattle.sym_state.specs.declared.piece.Piece.{Piece}
use Rattle.sym_state.specs.State.{State}
use Rattle.cert_check.specs.Left.{AreUpwards, HasPlaces, IsPlaced, IsPost}
use Rattle.cert_check.specs.Uses.{Passage, passage}
use Rattle.cert_check.specs.Walks.{Make, Making, Over, next_number}
use Rattle.cert_check.specs.declared.limits.TheConstants.{MOST_LOOPS}

-- a piece is within the bounds of calls: few symbols, of which few on its stack, and few lines
pub record IsShort (piece : Piece) : Type 0 where
  pub stack : length piece.stack ≤ 64
  pub symbols : symbols_of piece ≤ 1000000
  pub lines : line_count piece ≤ 1000000

-- a piece says where its symbols are and fits, and it binds variables, upwards by id, and fields that have a value where it stands
pub record IsPieceOf (style : Style) (entry : Bool) (piece : Piece) : Type 0 where
  pub short : IsShort piece
  pub numbered : IsNumbered piece
  pub fit : IsFit style piece
  pub places : HasPlaces 0 (symbols_of piece) piece
  pub vars : All (λ bind. has_kind style (is_variable entry) bind ≡ true) piece.vars
  pub fields : All (λ bind. has_kind style (is_field entry) bind ≡ true) piece.fields
  pub upwards : AreUpwards 0 piece.vars

-- what a post has of its unit, whose symbols below `kept` are those of the pre
pub record IsPostOf (style : Style) (unit : Passage) (kept : ℕ) (post : Piece) : Type 0 where
  pub short : IsShort post
  pub fits : IsPost style kept post
  pub placed : IsPlaced style unit kept post

-- the pieces of a summary say where their symbols are, and fit; it writes few variables
pub record IsSummaryOf (style : Style) (summary : Summary) : Type 0 where
  pub short : IsShort summary.pre
  pub numbered : IsNumbered summary.pre
  pub fit : IsFit style summary.pre
  pub places : HasPlaces 0 (symbols_of summary.pre) summary.pre
  pub posts : All (IsPostOf style (passage summary) (symbols_of summary.pre)) summary.posts
  pub writes : All (λ name. name.0 < length style.names) summary.writes
  pub few_writes : length summary.writes ≤ 65536
  pub hints : All HasFewUses summary.hints

-- a unit writes few variables, which have a value in it
pub record AreWritten (style : Style) (entry : Bool) (writes : List NameId) : Type 0 where
  pub there : All (λ name. name.0 < length style.names) writes
  pub variables : All (λ name. option_map_or (is_variable entry) (kind_of style name) false ≡ true) writes
  pub few : length writes ≤ 65536

-- the pieces of a loop fit, each with symbols of its own, and it has a case
pub record IsLoopOf (style : Style) (loop : Loop) : Type 0 where
  pub cases : All (IsPieceOf style loop.entry) loop.cases
  pub exits : All (IsPieceOf style loop.entry) loop.exits
  pub some : 1 ≤ length loop.cases
  pub few : length loop.cases + length loop.exits ≤ 64
  pub writes : AreWritten style loop.entry loop.writes
  pub hints : All HasFewUses loop.hints

-- no row of a piece names the number of entries visited before
abbrev pub HasNoPos : Piece → Type 0
HasNoPos piece = All (λ row. All (λ part. part.term ≢ Pos) row.parts) piece.rows

-- a row stays within the bounds of rows where another number stands for `pos`
abbrev pub IsMovable : Row → Type 0
IsMovable row = size row.constant + position_sizes row.parts ≤ 2 ^ 45

-- a command is one of the style, and its pieces fit; what was visited before is named in `visit` alone
pub record IsCommandOf (style : Style) (command : CommandPart) : Type 0 where
  pub there : command.index < length style.commands
  pub after : IfSome command.after (IsPieceOf style true)
  pub after_pos : IfSome command.after HasNoPos
  pub visit : IfSome command.visit (IsPieceOf style true)
  pub moves : IfSome command.visit (λ piece. All IsMovable piece.rows)
  pub keeps : IfSome command.keeps (IsPieceOf style true)
  pub keeps_pos : IfSome command.keeps HasNoPos
  pub hints : All HasFewUses command.hints

-- a certificate is one of the style
pub record IsCertified (style : Style) (cert : Cert) : Type 0 where
  pub limits : HasSmallLimits cert.cond
  pub fields : HasSmallFields cert.cond
  pub summaries : All (IsSummaryOf style) cert.summaries
  pub few_summaries : length cert.summaries ≤ 65536
  pub loops : All (IsLoopOf style) cert.loops
  pub commands : All (IsCommandOf style) cert.commands
  pub rise : is_chain (λ a b. nat_lt a.index b.index) cert.commands ≡ true

-- a style is sound, and a certificate is one of it
pub record AreSound (style : Style) (cert : Cert) : Type 0 where
  pub sound : IsSound style
  pub certified : IsCertified style cert

-- loops that are made are loops of the style, where there is a state that enters and each of them is well made
abbrev pub MakesLoops : Style → Make → Type 0
MakesLoops style make =
    (test body : Target) (states : List State) → 1 ≤ length states → All (WellMade style) states → IfSome (make test body states) (IsLoopOf style)

-- a loop of a style that may stand in a certificate
pub record IsStanding (style : Style) (one : Loop) : Type 0 where
  pub of_style : IsLoopOf style one
  pub stands : IsLoop style one

-- loops that are made may stand in one, where their functions may be named
abbrev pub MakesStanding : Style → Make → Type 0
MakesStanding style make =
    (test body : Target) (states : List State) → IsNameable style test → IsNameable style body → 1 ≤ length states → All (WellMade style) states
    → IfSome (make test body states) (IsLoop style)

-- a walk may be taken: what it is over is sound, and the loops that are made for it are loops of its style
pub record CanWalk (over : Over) (style : Style) (make : Option Make) : Type 0 where
  pub sound : IsSound over.style
  pub certified : IsCertified over.style over.cert
  pub same : style ≡ over.style
  pub makes : IfSome make (MakesLoops over.style)

-- the loops that were made for a token are loops of the style
abbrev pub HasMade : Style → Making → Type 0
HasMade style making = All (IsLoopOf style) making.made

-- with those that were made before they are no more than a certificate may have
pub record AreMade (style : Style) (making : Making) : Type 0 where
  pub made : HasMade style making
  pub few : next_number making ≤ MOST_LOOPS
