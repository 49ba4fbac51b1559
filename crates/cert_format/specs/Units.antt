-- How the lines of summaries, loops and commands are read (docs/CERTIFICATES.md, "Units").
use Rattle.std.specs.Prelude.{ℕ, ◌+◌, Bool, true, false, ◌&&◌, nat_le, if◌then◌else◌, List, [], ◌∷◌, ◌++◌, codes, Option, None, Some, is_some, Result, Ok, Err}
use Rattle.bv_base.specs.Answers.{then_do}
use Rattle.name_table.specs.declared.names.Kind.{Kind}
use Rattle.name_table.specs.declared.style.Style.{Style}
use Rattle.cert_format.specs.Hints.{hint_line}
use Rattle.cert_format.specs.Items.{among, is_word, last_of}
use Rattle.cert_format.specs.Lines.{Item, Line, next_item}
use Rattle.cert_format.specs.PieceItems.{variable_above}
use Rattle.cert_format.specs.Pieces.{at_end, no_piece, piece_line, piece_word}
use Rattle.cert_format.specs.declared.limits.TheConstants.{MOST_PIECES}
use Rattle.cert_format.specs.declared.piece_lines.PieceSoFar.{PieceSoFar}
use Rattle.cert_format.specs.declared.stages.Mark.{Mark}
use Rattle.cert_format.specs.declared.stages.Mark.TheVariants.{Pre, Post, Case, Exit, After, Visit, Keeps}
use Rattle.cert_format.specs.declared.stages.PieceWord.{PieceWord}
use Rattle.cert_format.specs.declared.stages.UnitKind.{UnitKind}
use Rattle.cert_format.specs.declared.stages.UnitKind.TheVariants as unit
use Rattle.cert_format.specs.declared.stages.UnitStage.{UnitStage}
use Rattle.cert_format.specs.declared.stages.UnitStage.TheVariants as stage
use Rattle.cert_format.specs.declared.stop.Stop.{Stop}
use Rattle.cert_format.specs.declared.stop.Stop.TheVariants.{Syntax, TooMany}
use Rattle.cert_format.specs.declared.unit_lines.UnitSoFar.{UnitSoFar}

-- what stands between the first line of a unit and its pieces: nothing in a command
abbrev pub first_stage : UnitKind → UnitStage
first_stage (unit.Command index) = stage.Pieces
first_stage _ = stage.Entry

-- a unit has all its lines
abbrev pub is_done : UnitStage → Bool
is_done stage.Done = true
is_done _ = false

-- after the first line of a unit
abbrev pub no_unit : UnitKind → UnitSoFar
no_unit kind =
    record {
      kind = kind;
      stage = first_stage kind;
      entry = false;
      whole = false;
      writes = [];
      last = None;
      count = 0;
      symbols = 0;
      piece = no_piece false false 0;
      pre = None;
      cases = [];
      later = [];
      after = None;
      visit = None;
      keeps = None;
      hints = [];
    }

-- the open piece in its place, and another one opened
abbrev pub placed_as : Option Mark → PieceSoFar → UnitSoFar → UnitSoFar
placed_as None next u = record u { piece = next }
placed_as (Some Pre) next u = record u { pre = Some u.piece.piece; symbols = u.piece.next; piece = next }
placed_as (Some Post) next u = record u { later = u.later ++ u.piece.piece ∷ []; piece = next }
placed_as (Some Case) next u = record u { cases = u.cases ++ u.piece.piece ∷ []; piece = next }
placed_as (Some Exit) next u = record u { later = u.later ++ u.piece.piece ∷ []; piece = next }
placed_as (Some After) next u = record u { after = Some u.piece.piece; piece = next }
placed_as (Some Visit) next u = record u { visit = Some u.piece.piece; piece = next }
placed_as (Some Keeps) next u = record u { keeps = Some u.piece.piece; piece = next }

-- the words before pieces
abbrev pub mark_words : List (List ℕ × Mark)
mark_words =
    (codes "pre", Pre) ∷ (codes "post", Post) ∷ (codes "case", Case)
    ∷ (codes "exit", Exit) ∷ (codes "after", After) ∷ (codes "visit", Visit) ∷ (codes "keeps", Keeps) ∷ []

-- a piece of a summary may come: its pre first, and then posts
abbrev pub in_summary : Option Mark → Mark → Bool
in_summary None Pre = true
in_summary (Some _) Post = true
in_summary _ _ = false

-- a piece of a loop may come: a case first, further cases, and then exits
abbrev pub in_loop : Option Mark → Mark → Bool
in_loop None Case = true
in_loop (Some Case) Case = true
in_loop (Some _) Exit = true
in_loop _ _ = false

-- a piece of a command may come: each at most once, in this order
abbrev pub in_command : Option Mark → Mark → Bool
in_command None After = true
in_command None Visit = true
in_command None Keeps = true
in_command (Some After) Visit = true
in_command (Some After) Keeps = true
in_command (Some Visit) Keeps = true
in_command _ _ = false

-- a piece may come behind the last one
abbrev pub may_follow : UnitKind → Option Mark → Mark → Bool
may_follow (unit.Summary body) last mark = in_summary last mark
may_follow (unit.Loop test body) last mark = in_loop last mark
may_follow (unit.Command index) last mark = in_command last mark

-- the hints may come: after a piece, but in a command
abbrev pub may_have_hints : UnitKind → Option Mark → Bool
may_have_hints (unit.Command index) last = true
may_have_hints _ last = is_some last

-- variables of entries and fields may stand in the pieces of a unit
abbrev pub is_at_entry : UnitKind → Bool → Bool
is_at_entry (unit.Command index) entry = true
is_at_entry _ entry = entry

-- `pos` may stand in a piece
abbrev pub may_have_pos : UnitKind → Bool → Mark → Bool
may_have_pos (unit.Command index) entry Visit = true
may_have_pos (unit.Command index) entry _ = false
may_have_pos _ entry mark = entry

-- the number of the first new symbol of a piece
abbrev pub first_symbol : Mark → ℕ → ℕ
first_symbol Post symbols = symbols
first_symbol _ symbols = 0

-- the symbols of the pre, of which its last line has been read
abbrev pub symbols_of : Option Mark → UnitSoFar → ℕ
symbols_of (Some Pre) u = u.piece.next
symbols_of _ u = u.symbols

-- a piece opened behind the last one
abbrev pub opened : Mark → UnitSoFar → UnitSoFar
opened mark u =
    let next = no_piece (is_at_entry u.kind u.entry) (may_have_pos u.kind u.entry mark) (first_symbol mark (symbols_of u.last u)) in
    record (placed_as u.last next u) { stage = stage.Pieces; last = Some mark; count = u.count + 1 }

-- the line of a word before a piece
abbrev pub mark_line : Mark → Item → Line → UnitSoFar → Result UnitSoFar Stop
mark_line mark word line u =
    if nat_le MOST_PIECES u.count then Err (TooMany word.left) else at_end line (opened mark u)

-- `hints`, after the last piece
abbrev pub hints_line : Item → Line → UnitSoFar → Result UnitSoFar Stop
hints_line word line u =
    if is_word (codes "hints") word && may_have_hints u.kind u.last
    then at_end line (record (placed_as u.last (no_piece false false 0) u) { stage = stage.Hints; last = None })
    else Err (Syntax word.left)

-- a word before a piece, or `hints`
abbrev pub marked_line : Option Mark → Item → Line → UnitSoFar → Result UnitSoFar Stop
marked_line None word line u = hints_line word line u
marked_line (Some mark) word line u =
    if may_follow u.kind u.last mark then mark_line mark word line u else Err (Syntax word.left)

-- the word of a line of the open piece
abbrev pub open_word : Option Mark → PieceSoFar → Item → Option PieceWord
open_word None piece word = None
open_word (Some _) piece word = piece_word piece.stage word.text

-- a line of the open piece, or one that ends it
abbrev pub piece_or_mark : Style → Option PieceWord → Item → Line → UnitSoFar → Result UnitSoFar Stop
piece_or_mark style (Some kind) word line u =
    then_do (piece_line style kind word line u.piece) (λ piece. Ok (record u { piece = piece }))
piece_or_mark style None word line u = marked_line (among word.text mark_words) word line u

-- `writes` V, after its word
abbrev pub writes_line : List (List ℕ × Kind) → Line → UnitSoFar → Result UnitSoFar Stop
writes_line names line u =
    then_do (next_item line) (λ item.
    then_do (variable_above u.entry (last_of u.writes) names item.0) (λ id.
    at_end item.1 (record u { stage = stage.Writes; writes = u.writes ++ id ∷ [] })))

-- an `entry` line may come
abbrev pub may_have_entry : UnitStage → Bool
may_have_entry stage.Entry = true
may_have_entry _ = false

-- a `whole` line may come
abbrev pub may_have_whole : UnitStage → Bool
may_have_whole stage.Entry = true
may_have_whole stage.Whole = true
may_have_whole _ = false

-- a `writes` line may come
abbrev pub may_have_writes : UnitStage → Bool
may_have_writes stage.Entry = true
may_have_writes stage.Whole = true
may_have_writes stage.Writes = true
may_have_writes _ = false

-- a line of a unit before its hints
abbrev pub body_line : Style → Item → Line → UnitSoFar → Result UnitSoFar Stop
body_line style word line u =
    if may_have_entry u.stage && is_word (codes "entry") word
    then at_end line (record u { stage = stage.Whole; entry = true })
    else if may_have_whole u.stage && is_word (codes "whole") word
    then at_end line (record u { stage = stage.Writes; whole = true })
    else if may_have_writes u.stage && is_word (codes "writes") word then writes_line style.names line u
    else piece_or_mark style (open_word u.last u.piece word) word line u

-- a hint, or `end`
abbrev pub hint_or_end : Item → Line → UnitSoFar → Result UnitSoFar Stop
hint_or_end word line u =
    if is_word (codes "end") word then at_end line (record u { stage = stage.Done })
    else then_do (hint_line word line) (λ hint. Ok (record u { hints = u.hints ++ hint ∷ [] }))

-- a line of a unit by what comes next
abbrev pub staged_line : Style → UnitStage → Item → Line → UnitSoFar → Result UnitSoFar Stop
staged_line style stage.Hints word line u = hint_or_end word line u
staged_line style stage.Done word line u = Err (Syntax word.left)
staged_line style _ word line u = body_line style word line u

-- a line of a unit, after its first word
abbrev pub unit_line : Style → Item → Line → UnitSoFar → Result UnitSoFar Stop
unit_line style word line u = staged_line style u.stage word line u
