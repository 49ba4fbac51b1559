-- A certificate that was read for a style is one of it.
use Rattle.std.proofs.Common.{◌≡◌, ℕ, ◌^◌, ◌≤◌, ◌<◌, Bool, true, false, List, [], ◌∷◌, length, Option, None, Some, IfSome, subst, arith}
use Rattle.std.specs.List.{All}
use Rattle.std.specs.Option.{option_map_or}
use Rattle.std.proofs.lemmas.List.Elements.{All-cons, All-nil}
use Rattle.bv_base.specs.declared.limits.TheConstants.{STYLE_BYTES}
use Rattle.name_table.specs.Names.{kind_at}
use Rattle.name_table.specs.Sound.{Each, IsSound}
use Rattle.name_table.specs.declared.names.NameId.{NameId}
use Rattle.name_table.specs.declared.style.Style.{Style}
use Rattle.bst_meaning.specs.declared.condition.Cond.{Cond}
use Rattle.cert_format.specs.CertText.{AreWrites, CertText, IsCommandPart, IsHint, IsLoop, IsPiece, IsSummary, IsVariable, next_behind, places_of}
use Rattle.cert_format.specs.CondText.{IsCond, IsNamesLine}
use Rattle.cert_format.specs.declared.cert.Cert.{Cert}
use Rattle.cert_format.specs.declared.cert.CommandPart.{CommandPart}
use Rattle.cert_format.specs.declared.cert.Loop.{Loop}
use Rattle.cert_format.specs.declared.cert.Summary.{Summary}
use Rattle.sym_state.specs.Demands.{HasFewUses}
use Rattle.sym_state.specs.Starting.{symbols_of}
use Rattle.sym_state.specs.WellMade.{HasSmallFields, HasSmallLimits, is_variable}
use Rattle.sym_state.specs.declared.hint.Hint.{Hint}
use Rattle.sym_state.specs.declared.hint.Hint.TheVariants as hint
use Rattle.sym_state.specs.declared.piece.Piece.{Piece}
use Rattle.cert_check.specs.Certified.{AreWritten, HasNoPos, IsCertified, IsCommandOf, IsLoopOf, IsMovable, IsPieceOf, IsPostOf, IsSummaryOf}
use Rattle.cert_check.specs.Left.{IsPlaced, IsPost}
use Rattle.cert_check.specs.Uses.{passage}
use Rattle.cert_check.proofs.ReadPieces.{IsRead, each_all, each_each, few_symbols, ordered, piece_read, placed_read, posted, read_movable, read_no_pos, shortly, variable_is}
use Rattle.cert_check.proofs.ReadPlaces.{few_rise}
use Rattle.cert_check.proofs.ReadTexts.{HasShortCases, HasShortParts, HasShortPieces, HasShortTexts, cert_short}

-- hints
hint_few : (h : Hint) → IsHint h → HasFewUses h
hint_few (hint.Step proof) is = is.few
hint_few (hint.Drop proof) is = is.few
hint_few (hint.Apply n) is = tt
hint_few (hint.Loop n) is = tt
hint_few (hint.Case n) is = tt
hint_few hint.Walk is = tt
hint_few hint.Keep is = tt
hint_few hint.Plain is = tt

pub hints_few : (hints : List Hint) → Each IsHint hints → All HasFewUses hints
hints_few hints is = each_all IsHint HasFewUses hint_few hints is

-- what a unit writes
written : (style : Style) (entry : Bool) (writes : List NameId) → IsSound style → AreWrites entry style.names writes → AreWritten style entry writes
written style entry writes sound are =
    let few = few_rise (λ (name : NameId). name.0) (length style.names) writes are.1
    (each_each (IsVariable entry style.names) (λ name. name.0 < length style.names) (λ name one. (variable_is style entry name one).0) writes are.0) in
    let most = sound.few_names in
    record {
      there = each_all (IsVariable entry style.names) (λ name. name.0 < length style.names) (λ name one. (variable_is style entry name one).0) writes are.0;
      variables = each_all (IsVariable entry style.names) (λ name. option_map_or (is_variable entry) (kind_at name style.names) false ≡ true)
          (λ name one. (variable_is style entry name one).1) writes are.0;
      few = omega (arith, few, most);
    }

-- pieces by themselves
pieces_read : (style : Style) (entry : Bool) (pieces : List Piece) → IsSound style → Each (IsPiece style entry entry 0) pieces → Each HasShortTexts pieces
    → All (IsPieceOf style entry) pieces
pieces_read style entry [] sound is short = All-nil (IsPieceOf style entry)
pieces_read style entry (piece ∷ pieces) sound is short =
    All-cons (IsPieceOf style entry) piece pieces
    (piece_read style entry entry piece (record { is = is.0; texts = short.0; small = omega arith; sound = sound }))
    (pieces_read style entry pieces sound is.1 short.1)

-- the posts of a summary go on from the symbols of its pre
posts_read : (style : Style) (summary : Summary) (next : ℕ) (posts : List Piece) → IsSound style → next ≤ 200000
    → Each (IsPiece style summary.entry summary.entry next) posts → Each HasShortTexts posts → next ≡ symbols_of summary.pre → AreWritten style summary.entry summary.writes
    → All (IsPostOf style (passage summary) (symbols_of summary.pre)) posts
posts_read style summary next [] sound small is short same writes = All-nil (IsPostOf style (passage summary) (symbols_of summary.pre))
posts_read style summary next (post ∷ posts) sound small is short same writes =
    let read : IsRead style summary.entry summary.entry next post = record { is = is.0; texts = short.0; small = small; sound = sound } in
    All-cons (IsPostOf style (passage summary) (symbols_of summary.pre)) post posts (record {
      short = shortly style summary.entry summary.entry next post read;
      fits = subst (λ (n : ℕ). IsPost style n post) same (posted style summary.entry summary.entry next post read);
      placed = subst (λ (n : ℕ). IsPlaced style (passage summary) n post) same (placed_read style (passage summary) summary.entry next post read writes.variables);
    })
    (posts_read style summary next posts sound small is.1 short.1 same writes)

summary_read : (style : Style) (summary : Summary) → IsSound style → IsSummary style summary → HasShortPieces summary → IsSummaryOf style summary
summary_read style summary sound is short =
    let read : IsRead style summary.entry summary.entry 0 summary.pre = record { is = is.pre; texts = short.pre; small = omega arith; sound = sound } in
    let pre = piece_read style summary.entry summary.entry summary.pre read in
    let count = few_symbols style summary.entry summary.entry 0 summary.pre read in
    let behind = (ordered style summary.entry summary.entry 0 summary.pre read).behind in
    let writes = written style summary.entry summary.writes sound is.writes in
    record {
      short = pre.short;
      numbered = pre.numbered;
      fit = pre.fit;
      places = pre.places;
      posts = posts_read style summary (next_behind 0 (places_of summary.pre)) summary.posts sound (omega (arith, behind, count)) is.posts short.posts
          (omega (arith, behind)) writes;
      writes = writes.there;
      few_writes = writes.few;
      hints = hints_few summary.hints is.hints;
    }

loop_read : (style : Style) (loop : Loop) → IsSound style → IsLoop style loop → HasShortCases loop → IsLoopOf style loop
loop_read style loop sound is short = record {
  cases = pieces_read style loop.entry loop.cases sound is.cases short.cases;
  exits = pieces_read style loop.entry loop.exits sound is.exits short.exits;
  some = is.some;
  few = is.few;
  writes = written style loop.entry loop.writes sound is.writes;
  hints = hints_few loop.hints is.hints;
}

-- a piece of a command that may be missing
maybe_read : (style : Style) (has_pos : Bool) (piece : Option Piece) → IsSound style → IfSome piece (IsPiece style true has_pos 0) → IfSome piece HasShortTexts
    → IfSome piece (IsPieceOf style true)
maybe_read style has_pos None sound is short = tt
maybe_read style has_pos (Some piece) sound is short =
    piece_read style true has_pos piece (record { is = is; texts = short; small = omega arith; sound = sound })

maybe_no_pos : (style : Style) (piece : Option Piece) → IfSome piece (IsPiece style true false 0) → IfSome piece HasNoPos
maybe_no_pos style None is = tt
maybe_no_pos style (Some piece) is = read_no_pos style true 0 piece is

maybe_movable : (style : Style) (piece : Option Piece) → IfSome piece (IsPiece style true true 0) → IfSome piece (λ p. All IsMovable p.rows)
maybe_movable style None is = tt
maybe_movable style (Some piece) is = read_movable style true true 0 piece is

pub command_read : (style : Style) (command : CommandPart) → IsSound style → IsCommandPart style command → HasShortParts command → IsCommandOf style command
command_read style command sound is short = record {
  there = is.there;
  after = maybe_read style false command.after sound is.after short.after;
  after_pos = maybe_no_pos style command.after is.after;
  visit = maybe_read style true command.visit sound is.visit short.visit;
  moves = maybe_movable style command.visit is.visit;
  keeps = maybe_read style false command.keeps sound is.keeps short.keeps;
  keeps_pos = maybe_no_pos style command.keeps is.keeps;
  hints = hints_few command.hints is.hints;
}

-- what holds of each of two lists of properties
both_all : {A : Type 0} (P Q R : A → Type 0) → ((x : A) → P x → Q x → R x) → (xs : List A) → Each P xs → Each Q xs → All R xs
both_all P Q R gives [] first second = All-nil R
both_all P Q R gives (x ∷ xs) first second = All-cons R x xs (gives x first.0 second.0) (both_all P Q R gives xs first.1 second.1)

pub cond_limits : (style : Style) (cond : Cond) → IsCond style.names cond → HasSmallLimits cond × HasSmallFields cond
cond_limits style cond is =
    let key = is.key in
    let preamble = is.preamble in
    let most = is.length in (
      record { key = omega (arith, key); preamble = omega (arith, preamble) },
      record {
        length = omega (arith, most);
        names = each_all (IsNamesLine style.names) (λ line. line.most ≤ 2 ^ 45) (λ line one. let few = one.1 in omega (arith, few)) cond.names is.bounds;
      },
    )

pub cert_certified : (style : Style) (source : List ℕ) (cert : Cert) → IsSound style → length source ≤ STYLE_BYTES → CertText style source cert → IsCertified style cert
cert_certified style source cert sound few is =
    let kept = is.kept in
    let short = cert_short style source cert few is.spelled in
    let limits = cond_limits style cert.cond kept.cond in
    record {
      limits = limits.0;
      fields = limits.1;
      summaries = both_all (IsSummary style) HasShortPieces (IsSummaryOf style) (λ summary one texts. summary_read style summary sound one texts) cert.summaries kept.summaries short.summaries;
      few_summaries = kept.few_summaries;
      loops = both_all (IsLoop style) HasShortCases (IsLoopOf style) (λ loop one texts. loop_read style loop sound one texts) cert.loops kept.loops short.loops;
      commands = both_all (IsCommandPart style) HasShortParts (IsCommandOf style) (λ command one texts. command_read style command sound one texts) cert.commands kept.commands short.commands;
      rise = kept.rise;
    }
