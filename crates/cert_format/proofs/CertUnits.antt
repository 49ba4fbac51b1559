-- What has been read of a unit: its spelling, and what it keeps.
use Rattle.std.proofs.Common.{◌≡◌, ℕ, ◌+◌, ◌<◌, ◌≤◌, Bool, true, false, List, [], ◌∷◌, ◌++◌, length, map, Option, Some, None, IfSome, codes}
use Rattle.std.specs.Fmt.{decimal}
use Rattle.name_table.specs.Sound.{Each}
use Rattle.name_table.specs.declared.names.Kind.{Kind}
use Rattle.name_table.specs.declared.names.NameId.{NameId}
use Rattle.name_table.specs.declared.style.Style.{Style}
use Rattle.sym_state.specs.declared.hint.Hint.{Hint}
use Rattle.sym_state.specs.declared.piece.Piece.{Piece}
use Rattle.cert_format.specs.CertText.{AreWrites, IsHint, IsPiece, next_behind, places_of}
use Rattle.cert_format.specs.HintSpelling.{hint_items}
use Rattle.cert_format.specs.Pieces as pieces
use Rattle.cert_format.specs.UnitSpelling.{all_marked, body_text, head_lines, maybe_marked}
use Rattle.cert_format.specs.Units as units
use Rattle.cert_format.specs.declared.stages.Mark.{Mark}
use Rattle.cert_format.specs.declared.stages.Mark.TheVariants.{Pre, Post, Case, Exit, After, Visit, Keeps}
use Rattle.cert_format.specs.declared.stages.UnitKind.{UnitKind}
use Rattle.cert_format.specs.declared.stages.UnitKind.TheVariants as unit
use Rattle.cert_format.specs.declared.stages.UnitStage.{UnitStage}
use Rattle.cert_format.specs.declared.stages.UnitStage.TheVariants as stage
use Rattle.cert_format.specs.declared.unit_lines.UnitSoFar.{UnitSoFar}
use Rattle.cert_format.proofs.CertSteps.{Fits, Kept}

-- the lines of a text
abbrev pub Lines : Type 0
Lines = List (List (List ℕ))

-- the first line of a unit
abbrev pub first_items : Style → UnitKind → List (List ℕ)
first_items style (unit.Summary entered) = codes "summary" ∷ (body_text style entered ∷ [])
first_items style (unit.Loop test repeated) = codes "loop" ∷ (body_text style test ∷ (body_text style repeated ∷ []))
first_items style (unit.Command index) = codes "command" ∷ (decimal index ∷ [])

-- the closed pieces of a unit
pub record Closed : Type 0 where
  pub pre : Option Piece
  pub cases : List Piece
  pub later : List Piece
  pub after : Option Piece
  pub visit : Option Piece
  pub keeps : Option Piece
  pub symbols : ℕ

abbrev pub closed_of : UnitSoFar → Closed
closed_of u = record { pre = u.pre; cases = u.cases; later = u.later; after = u.after; visit = u.visit; keeps = u.keeps; symbols = u.symbols }

-- a unit with other closed pieces
abbrev pub with_closed : Closed → UnitSoFar → UnitSoFar
with_closed c u = record u { pre = c.pre; cases = c.cases; later = c.later; after = c.after; visit = c.visit; keeps = c.keeps; symbols = c.symbols }

-- the pieces of a unit, each behind its word
abbrev pub body_of : List (List ℕ × Kind) → UnitKind → Closed → Lines
body_of names (unit.Summary entered) u = maybe_marked (codes "pre") names u.pre ++ all_marked (codes "post") names u.later
body_of names (unit.Loop test repeated) u = all_marked (codes "case") names u.cases ++ all_marked (codes "exit") names u.later
body_of names (unit.Command index) u =
    maybe_marked (codes "after") names u.after ++ (maybe_marked (codes "visit") names u.visit ++ maybe_marked (codes "keeps") names u.keeps)

abbrev pub body_lines : List (List ℕ × Kind) → UnitKind → UnitSoFar → Lines
body_lines names kind u = body_of names kind (closed_of u)

-- the hints that have been read
abbrev pub hints_at : UnitStage → List Hint → Lines
hints_at stage.Hints hints = (codes "hints" ∷ []) ∷ map hint_items hints
hints_at stage.Done hints = (codes "hints" ∷ []) ∷ (map hint_items hints ++ (codes "end" ∷ []) ∷ [])
hints_at _ hints = []

-- a unit with its open piece in its place
abbrev pub closed : UnitSoFar → UnitSoFar
closed u = units.placed_as u.last u.piece u

-- the lines of a unit behind its pieces' head
abbrev pub tail_lines : Style → UnitSoFar → Lines
tail_lines style u = body_lines style.names u.kind (closed u) ++ hints_at u.stage u.hints

-- the lines that have been read of a unit
abbrev pub unit_spelled : Style → UnitSoFar → Lines
unit_spelled style u = first_items style u.kind ∷ (head_lines style.names u.entry u.whole u.writes ++ tail_lines style u)

-- the order of the lines of a unit
abbrev pub rank : UnitStage → ℕ
rank s = elim s [ stage.Entry ↦ 0 | stage.Whole ↦ 1 | stage.Writes ↦ 2 | stage.Pieces ↦ 3 | stage.Hints ↦ 4 | stage.Done ↦ 5 ]

-- a piece of this mark may be opened: nothing stands behind it
abbrev pub ReadyOf : UnitKind → Mark → Closed → Type 0
ReadyOf (unit.Summary entered) Pre u = (u.pre ≡ None) × (u.later ≡ [])
ReadyOf (unit.Summary entered) Post u = (piece : Piece) × (u.pre ≡ Some piece)
ReadyOf (unit.Loop test repeated) Case u = u.later ≡ []
ReadyOf (unit.Loop test repeated) Exit u = 1 ≤ length u.cases
ReadyOf (unit.Command index) After u = (u.after ≡ None) × (u.visit ≡ None) × (u.keeps ≡ None)
ReadyOf (unit.Command index) Visit u = (u.visit ≡ None) × (u.keeps ≡ None)
ReadyOf (unit.Command index) Keeps u = u.keeps ≡ None
ReadyOf _ _ u = ⊥

abbrev pub Ready : UnitKind → Mark → UnitSoFar → Type 0
Ready kind mark u = ReadyOf kind mark (closed_of u)

-- no piece has come
abbrev pub BareOf : UnitKind → Closed → Type 0
BareOf (unit.Summary entered) u = (u.pre ≡ None) × (u.later ≡ []) × (u.symbols ≡ 0)
BareOf (unit.Loop test repeated) u = (u.cases ≡ []) × (u.later ≡ [])
BareOf (unit.Command index) u = (u.after ≡ None) × (u.visit ≡ None) × (u.keeps ≡ None)

abbrev pub Bare : UnitKind → UnitSoFar → Type 0
Bare kind u = BareOf kind (closed_of u)

-- the pieces that a unit must have are there
abbrev pub FullOf : UnitKind → Closed → Type 0
FullOf (unit.Summary entered) u = (piece : Piece) × (u.pre ≡ Some piece)
FullOf (unit.Loop test repeated) u = 1 ≤ length u.cases
FullOf (unit.Command index) u = Unit {0}

abbrev pub Full : UnitKind → UnitSoFar → Type 0
Full kind u = FullOf kind (closed_of u)

-- what stands of the pieces of a unit: they are open, or all are closed
abbrev pub ShapeOf : UnitStage → Option Mark → UnitKind → Closed → Type 0
ShapeOf stage.Hints last kind u = FullOf kind u × (last ≡ None)
ShapeOf stage.Done last kind u = FullOf kind u × (last ≡ None)
ShapeOf s None kind u = BareOf kind u
ShapeOf s (Some mark) kind u = ReadyOf kind mark u

abbrev pub Shape : UnitStage → Option Mark → UnitKind → UnitSoFar → Type 0
Shape s last kind u = ShapeOf s last kind (closed_of u)

-- the number of the first new symbol of a post
abbrev pub first_post : Option Piece → ℕ
first_post None = 0
first_post (Some pre) = next_behind 0 (places_of pre)

-- the closed pieces of a unit keep their limits
abbrev pub GoodOf : Style → UnitKind → Bool → Closed → Type 0
GoodOf style (unit.Summary entered) entry u =
    IfSome u.pre (IsPiece style entry entry 0) × Each (IsPiece style entry entry (first_post u.pre)) u.later × (u.symbols ≡ first_post u.pre)
GoodOf style (unit.Loop test repeated) entry u = Each (IsPiece style entry entry 0) u.cases × Each (IsPiece style entry entry 0) u.later
GoodOf style (unit.Command index) entry u =
    IfSome u.after (IsPiece style true false 0) × IfSome u.visit (IsPiece style true true 0) × IfSome u.keeps (IsPiece style true false 0)

abbrev pub Good : Style → UnitKind → Bool → UnitSoFar → Type 0
Good style kind entry u = GoodOf style kind entry (closed_of u)

-- one where a piece is there
abbrev pub one_if : Option Piece → ℕ
one_if None = 0
one_if (Some piece) = 1

-- how many pieces are closed
abbrev pub CountedOf : UnitKind → ℕ → Closed → Type 0
CountedOf (unit.Summary entered) n u = n ≡ one_if u.pre + length u.later
CountedOf (unit.Loop test repeated) n u = n ≡ length u.cases + length u.later
CountedOf (unit.Command index) n u = Unit {0}

abbrev pub Counted : UnitKind → ℕ → UnitSoFar → Type 0
Counted kind n u = CountedOf kind n (closed_of u)

-- the open piece keeps its limits
pub record Open (style : Style) (mark : Mark) (u : UnitSoFar) : Type 0 where
  pub kept : Kept style (units.first_symbol mark u.symbols) u.piece
  pub fits : Fits (pieces.stage_rank u.piece.stage) u.piece.piece
  pub entry : u.piece.at_entry ≡ units.is_at_entry u.kind u.entry
  pub pos : u.piece.has_pos ≡ units.may_have_pos u.kind u.entry mark

-- what is open, where something is
abbrev pub OpenAt : Style → Option Mark → UnitSoFar → Type 0
OpenAt style None u = Unit {0}
OpenAt style (Some mark) u = Open style mark u

-- how many pieces have come
abbrev pub CountAtOf : Option Mark → UnitKind → ℕ → Closed → Type 0
CountAtOf None kind n u = CountedOf kind n u
CountAtOf (Some mark) kind n u = (before : ℕ) × (n ≡ before + 1) × CountedOf kind before u

abbrev pub CountAt : Option Mark → UnitKind → ℕ → UnitSoFar → Type 0
CountAt last kind n u = CountAtOf last kind n (closed_of u)

-- a command has no head
abbrev pub Headless : UnitKind → UnitStage → Bool → Bool → List NameId → Type 0
Headless (unit.Command index) s entry whole writes = (3 ≤ rank s) × (entry ≡ false) × (whole ≡ false) × (writes ≡ [])
Headless _ s entry whole writes = Unit {0}

-- what has been read of a unit keeps the limits, and what hasn't come is missing
pub record UnitKept (style : Style) (u : UnitSoFar) : Type 0 where
  pub no_entry : rank u.stage < 1 → u.entry ≡ false
  pub no_whole : rank u.stage < 2 → u.whole ≡ false
  pub no_writes : rank u.stage < 2 → u.writes ≡ []
  pub no_piece : rank u.stage < 3 → u.last ≡ None
  pub no_hints : rank u.stage < 4 → u.hints ≡ []
  pub writes : AreWrites u.entry style.names u.writes
  pub shape : Shape u.stage u.last u.kind u
  pub good : Good style u.kind u.entry u
  pub open_piece : OpenAt style u.last u
  pub count : CountAt u.last u.kind u.count u
  pub few : u.count ≤ 64
  pub hints : Each IsHint u.hints
  pub headless : Headless u.kind u.stage u.entry u.whole u.writes

-- what is kept of a unit, by its parts
pub kept_of : (style : Style) (u : UnitSoFar) → (rank u.stage < 1 → u.entry ≡ false) → (rank u.stage < 2 → u.whole ≡ false)
    → (rank u.stage < 2 → u.writes ≡ []) → (rank u.stage < 3 → u.last ≡ None) → (rank u.stage < 4 → u.hints ≡ [])
    → AreWrites u.entry style.names u.writes → Shape u.stage u.last u.kind u → Good style u.kind u.entry u → OpenAt style u.last u
    → CountAt u.last u.kind u.count u → u.count ≤ 64 → Each IsHint u.hints → Headless u.kind u.stage u.entry u.whole u.writes → UnitKept style u
kept_of style u a b c d e f g h i j k l m =
    record { no_entry = a; no_whole = b; no_writes = c; no_piece = d; no_hints = e; writes = f; shape = g; good = h; open_piece = i; count = j; few = k; hints = l; headless = m }

-- the word before a piece
abbrev pub mark_text : Mark → List ℕ
mark_text mark = elim mark [ Pre ↦ codes "pre" | Post ↦ codes "post" | Case ↦ codes "case" | Exit ↦ codes "exit" | After ↦ codes "after" | Visit ↦ codes "visit" | Keeps ↦ codes "keeps" ]
