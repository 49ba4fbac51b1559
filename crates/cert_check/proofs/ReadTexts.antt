-- The texts of a certificate that was read are no longer than its own text.
use Rattle.std.proofs.Common.{◌≡◌, ℕ, ◌≤◌, List, [], ◌∷◌, ◌++◌, length, length-append, map, codes, subst, Option, None, Some, IfSome, arith}
use Rattle.std.specs.List.{All}
use Rattle.std.proofs.lemmas.List.Elements.{All-cons, All-nil}
use Rattle.name_table.specs.Sound.{Each}
use Rattle.name_table.specs.declared.names.Kind.{Kind}
use Rattle.name_table.specs.declared.style.Style.{Style}
use Rattle.bv_base.specs.declared.limits.TheConstants.{STYLE_BYTES}
use Rattle.cert_format.specs.HintSpelling.{hints_lines}
use Rattle.cert_format.specs.PieceSpelling.{bind_items, fact_items, hex_digits, hex_text, piece_lines, row_items, stack_lines}
use Rattle.cert_format.specs.Spelling.{after_item, cond_items, line_text, text_of}
use Rattle.cert_format.specs.UnitSpelling.{all_marked, cert_lines, command_lines, each_lines, head_lines, loop_lines, marked_lines, maybe_marked, summary_lines}
use Rattle.cert_format.specs.declared.cert.Cert.{Cert}
use Rattle.cert_format.specs.declared.cert.CommandPart.{CommandPart}
use Rattle.cert_format.specs.declared.cert.Loop.{Loop}
use Rattle.cert_format.specs.declared.cert.Summary.{Summary}
use Rattle.sym_state.specs.WellMade.{HasShortText}
use Rattle.sym_state.specs.declared.piece.Piece.{Piece}
use Rattle.sym_state.specs.declared.symbol.Fact.{Fact}
use Rattle.sym_state.specs.declared.symbol.Fact.TheVariants as fact

-- an item is no longer than the text of a style or a certificate may be
abbrev IsSmall : List ℕ → Type 0
IsSmall item = length item ≤ STYLE_BYTES

-- so is each item of lines
abbrev AreSmall : List (List (List ℕ)) → Type 0
AreSmall lines = Each (Each IsSmall) lines

after_small : (items : List (List ℕ)) → length (after_item items) ≤ STYLE_BYTES → Each IsSmall items
after_small [] few = tt
after_small (item ∷ items) few =
    let both = length-append item (after_item items) in
    (omega (arith, few, both), after_small items (omega (arith, few, both)))

line_small : (line : List (List ℕ)) → length (line_text line) ≤ STYLE_BYTES → Each IsSmall line
line_small [] few = tt
line_small (item ∷ items) few =
    let both = length-append item (after_item items) in
    (omega (arith, few, both), after_small items (omega (arith, few, both)))

-- the items of a text that is no longer
text_small : (lines : List (List (List ℕ))) → length (text_of lines) ≤ STYLE_BYTES → AreSmall lines
text_small [] few = tt
text_small (line ∷ lines) few =
    let both = length-append (line_text line) (text_of lines) in
    (line_small line (omega (arith, few, both)), text_small lines (omega (arith, few, both)))

-- parts of lists
front : {A : Type 0} (P : A → Type 0) (xs ys : List A) → Each P (xs ++ ys) → Each P xs
front P [] ys each = tt
front P (x ∷ xs) ys each = (each.0, front P xs ys each.1)

back : {A : Type 0} (P : A → Type 0) (xs ys : List A) → Each P (xs ++ ys) → Each P ys
back P [] ys each = each
back P (x ∷ xs) ys each = back P xs ys each.1

mapped : {A B : Type 0} (P : B → Type 0) (f : A → B) (xs : List A) → Each P (map f xs) → Each (λ x. P (f x)) xs
mapped P f [] each = tt
mapped P f (x ∷ xs) each = (each.0, mapped P f xs each.1)

-- a property of what lines spell, for each item of a list
each_short : {A : Type 0} (lines : A → List (List (List ℕ))) (P : A → Type 0) → ((x : A) → AreSmall (lines x) → P x) → (xs : List A)
    → AreSmall (each_lines lines xs) → Each P xs
each_short lines P short [] small = tt
each_short lines P short (x ∷ xs) small =
    (short x (front (Each IsSmall) (lines x) (each_lines lines xs) small), each_short lines P short xs (back (Each IsSmall) (lines x) (each_lines lines xs) small))

-- a text is no longer than it is written in digits
digits_long : (text : List ℕ) → length text ≤ length (hex_digits text)
digits_long [] = omega arith
digits_long (b ∷ bytes) = let rest = digits_long bytes in omega (arith, rest)

hex_long : (text : List ℕ) → length text ≤ length (hex_text text)
hex_long [] = omega arith
hex_long (b ∷ bytes) = digits_long (b ∷ bytes)

fact_short : (names : List (List ℕ × Kind)) (f : Fact) → Each IsSmall (fact_items names f) → HasShortText f
fact_short names (fact.Text s text) small = let long = hex_long text in let few = small.1.1.0 in omega (arith, long, few)
fact_short names (fact.Is s kind) small = tt
fact_short names (fact.Int s n) small = tt
fact_short names (fact.Call s name) small = tt
fact_short names (fact.Block s number) small = tt
fact_short names (fact.Blank s) small = tt
fact_short names (fact.Nonblank s) small = tt
fact_short names (fact.Wellformed s) small = tt

facts_short : (names : List (List ℕ × Kind)) (facts : List Fact) → Each (λ f. Each IsSmall (fact_items names f)) facts → All HasShortText facts
facts_short names [] small = All-nil HasShortText
facts_short names (f ∷ facts) small = All-cons HasShortText f facts (fact_short names f small.0) (facts_short names facts small.1)

-- the texts of a piece
abbrev pub HasShortTexts : Piece → Type 0
HasShortTexts piece = All HasShortText piece.facts

piece_short : (names : List (List ℕ × Kind)) (piece : Piece) → AreSmall (piece_lines names piece) → HasShortTexts piece
piece_short names piece small =
    let vars = map (bind_items (codes "var") names) piece.vars in
    let fields = map (bind_items (codes "field") names) piece.fields in
    let facts = map (fact_items names) piece.facts in
    let rows = map row_items piece.rows in
    let bound = back (Each IsSmall) (stack_lines piece.stack) (vars ++ (fields ++ (facts ++ rows))) small in
    let said = back (Each IsSmall) fields (facts ++ rows) (back (Each IsSmall) vars (fields ++ (facts ++ rows)) bound) in
    facts_short names piece.facts (mapped (Each IsSmall) (fact_items names) piece.facts (front (Each IsSmall) facts rows said))

pieces_short : (word : List ℕ) (names : List (List ℕ × Kind)) (pieces : List Piece) → AreSmall (all_marked word names pieces) → Each HasShortTexts pieces
pieces_short word names pieces small =
    each_short (marked_lines word names) HasShortTexts (λ piece lines. piece_short names piece lines.1) pieces small

maybe_short : (word : List ℕ) (names : List (List ℕ × Kind)) (piece : Option Piece) → AreSmall (maybe_marked word names piece) → IfSome piece HasShortTexts
maybe_short word names None small = tt
maybe_short word names (Some piece) small = piece_short names piece small.1

-- the three parts of a unit
record ThreeParts (a b c : List (List (List ℕ))) : Type 0 where
  first : AreSmall a
  second : AreSmall b
  third : AreSmall c

three_parts : (a b c hints : List (List (List ℕ))) → AreSmall (a ++ (b ++ (c ++ hints))) → ThreeParts a b c
three_parts a b c hints small =
    let later = back (Each IsSmall) a (b ++ (c ++ hints)) small in
    record {
      first = front (Each IsSmall) a (b ++ (c ++ hints)) small;
      second = front (Each IsSmall) b (c ++ hints) later;
      third = front (Each IsSmall) c hints (back (Each IsSmall) b (c ++ hints) later);
    }

-- the texts of the pieces of a summary, a loop and a command
pub record HasShortPieces (summary : Summary) : Type 0 where
  pub pre : HasShortTexts summary.pre
  pub posts : Each HasShortTexts summary.posts

pub record HasShortCases (loop : Loop) : Type 0 where
  pub cases : Each HasShortTexts loop.cases
  pub exits : Each HasShortTexts loop.exits

pub record HasShortParts (command : CommandPart) : Type 0 where
  pub after : IfSome command.after HasShortTexts
  pub visit : IfSome command.visit HasShortTexts
  pub keeps : IfSome command.keeps HasShortTexts

summary_short : (style : Style) (summary : Summary) → AreSmall (summary_lines style summary) → HasShortPieces summary
summary_short style summary small =
    let parts = three_parts (head_lines style.names summary.entry summary.whole summary.writes) (marked_lines (codes "pre") style.names summary.pre)
    (all_marked (codes "post") style.names summary.posts) (hints_lines summary.hints) small.1 in
    record {
      pre = piece_short style.names summary.pre parts.second.1;
      posts = pieces_short (codes "post") style.names summary.posts parts.third;
    }

loop_short : (style : Style) (loop : Loop) → AreSmall (loop_lines style loop) → HasShortCases loop
loop_short style loop small =
    let parts = three_parts (head_lines style.names loop.entry loop.whole loop.writes) (all_marked (codes "case") style.names loop.cases)
    (all_marked (codes "exit") style.names loop.exits) (hints_lines loop.hints) small.1 in
    record {
      cases = pieces_short (codes "case") style.names loop.cases parts.second;
      exits = pieces_short (codes "exit") style.names loop.exits parts.third;
    }

command_short : (style : Style) (command : CommandPart) → AreSmall (command_lines style command) → HasShortParts command
command_short style command small =
    let parts = three_parts (maybe_marked (codes "after") style.names command.after) (maybe_marked (codes "visit") style.names command.visit)
    (maybe_marked (codes "keeps") style.names command.keeps) (hints_lines command.hints) small.1 in
    record {
      after = maybe_short (codes "after") style.names command.after parts.first;
      visit = maybe_short (codes "visit") style.names command.visit parts.second;
      keeps = maybe_short (codes "keeps") style.names command.keeps parts.third;
    }

-- the texts of a certificate
pub record HasShortUnits (cert : Cert) : Type 0 where
  pub summaries : Each HasShortPieces cert.summaries
  pub loops : Each HasShortCases cert.loops
  pub commands : Each HasShortParts cert.commands

pub cert_short : (style : Style) (source : List ℕ) (cert : Cert) → length source ≤ STYLE_BYTES → source ≡ text_of (cert_lines style cert) → HasShortUnits cert
cert_short style source cert few is =
    let all = text_small (cert_lines style cert) (subst (λ (text : List ℕ). length text ≤ STYLE_BYTES) is few) in
    let summaries = each_lines (summary_lines style) cert.summaries in
    let loops = each_lines (loop_lines style) cert.loops in
    let commands = each_lines (command_lines style) cert.commands in
    let end : List (List (List ℕ)) = (codes "done" ∷ []) ∷ [] in
    let units = back (Each IsSmall) (cond_items style.names cert.cond) (summaries ++ (loops ++ (commands ++ end))) all.1 in
    let later = back (Each IsSmall) summaries (loops ++ (commands ++ end)) units in
    let last = back (Each IsSmall) loops (commands ++ end) later in
    record {
      summaries = each_short (summary_lines style) HasShortPieces (summary_short style) cert.summaries (front (Each IsSmall) summaries (loops ++ (commands ++ end)) units);
      loops = each_short (loop_lines style) HasShortCases (loop_short style) cert.loops (front (Each IsSmall) loops (commands ++ end) later);
      commands = each_short (command_lines style) HasShortParts (command_short style) cert.commands (front (Each IsSmall) commands end last);
    }
