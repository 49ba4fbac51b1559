-- What a certificate spells can stand in lines: each item has no space and no byte 10.
use Rattle.std.proofs.Common.{◌≡◌, ℕ, suc, ◌+◌, ◌/◌, ◌%◌, ◌<◌, ◌≤◌, Bool, true, false, not, nat_le, nat_lt, cond, ℤ, pos, negsuc, List, [], ◌∷◌, ◌++◌, map, Option, Some, None, IfSome, codes, lit≤, refl, sym, subst, arith}
use Rattle.std.specs.Fmt.{decimal, signed_decimal}
use Rattle.std.specs.List.{list_all}
use Rattle.std.proofs.lemmas.Bool.{and_from, and_parts}
use Rattle.std.proofs.lemmas.Bool.Decides.{nat_tests}
use Rattle.bst_meaning.specs.declared.value.Target.{Target}
use Rattle.bst_meaning.specs.declared.value.Target.TheVariants.{Named, Block as BlockBody}
use Rattle.bv_base.proofs.RunLemmas.{none_joined}
use Rattle.bv_base.specs.Runs.{is_black}
use Rattle.lin_facts.specs.declared.row.Part.{Part}
use Rattle.lin_facts.specs.declared.row.Row.{Row as RowOf}
use Rattle.lin_facts.specs.declared.row.Term.{Term}
use Rattle.lin_facts.specs.declared.row.Term.TheVariants.{Value, Length, Names, Pos, Count}
use Rattle.name_table.specs.Numbers.{IsByteList}
use Rattle.name_table.specs.Sound.{Each}
use Rattle.name_table.specs.declared.names.Kind.{Kind}
use Rattle.name_table.specs.declared.names.NameId.{NameId}
use Rattle.name_table.specs.declared.style.Style.{Style}
use Rattle.sym_state.specs.declared.hint.Hint.{Hint}
use Rattle.sym_state.specs.declared.hint.Hint.TheVariants as hint
use Rattle.sym_state.specs.declared.piece.Piece.{Piece}
use Rattle.sym_state.specs.declared.proof.Proof.{Proof}
use Rattle.sym_state.specs.declared.proof.Reference.{Reference}
use Rattle.sym_state.specs.declared.proof.Reference.TheVariants as row
use Rattle.sym_state.specs.declared.proof.Use.{Use}
use Rattle.sym_state.specs.declared.symbol.Bind.{Bind}
use Rattle.sym_state.specs.declared.symbol.Fact.{Fact}
use Rattle.sym_state.specs.declared.symbol.Fact.TheVariants as fact
use Rattle.sym_state.specs.declared.symbol.Kinds.{Kinds}
use Rattle.sym_state.specs.declared.symbol.Kinds.TheVariants.{Int as IntKind, Str, Missing, Optional, Func, Any}
use Rattle.sym_state.specs.declared.symbol.Sym.{Sym}
use Rattle.cert_format.specs.CertText.{IsCert, IsCommandPart, IsFact, IsHint, IsLoop, IsNameable, IsPart, IsPiece, IsProof, IsRow, IsSummary, IsTerm, IsUse, IsVariable, are_placed, bound_symbols, has_word, is_within, next_behind, places_of, reference_number}
use Rattle.cert_format.specs.CondText.{ArePlain, IsField}
use Rattle.cert_format.specs.HintSpelling.{hint_items, hints_lines, proof_items, reference_text, use_text}
use Rattle.cert_format.specs.Items.{is_empty, is_type}
use Rattle.cert_format.specs.Lines.{is_newline, is_space}
use Rattle.cert_format.specs.PieceItems as items
use Rattle.cert_format.specs.PieceSpelling.{bind_items, fact_items, hex_digit, hex_digits, hex_text, kind_text, part_items, piece_lines, row_items, stack_lines, sym_text, term_text}
use Rattle.cert_format.specs.Spelling.{cond_items, name_text}
use Rattle.cert_format.specs.UnitSpelling.{all_marked, block_number, body_text, cert_lines, command_lines, each_lines, head_lines, loop_lines, marked_lines, maybe_marked, summary_lines, word_lines, writes_items}
use Rattle.cert_format.specs.declared.cert.Cert.{Cert}
use Rattle.cert_format.specs.declared.cert.CommandPart.{CommandPart}
use Rattle.cert_format.specs.declared.cert.Loop.{Loop}
use Rattle.cert_format.specs.declared.cert.Summary.{Summary}
use Rattle.cert_format.proofs.CertNames.{name_solid, variable_name}
use Rattle.cert_format.proofs.CertTaken.{behind_small}
use Rattle.cert_format.proofs.CertUnits.{Lines}
use Rattle.cert_format.proofs.CondBack.{digits_black, lines_solid, solid_append}
use Rattle.cert_format.proofs.NamesTaken.{field_solid, type_solid}
use Rattle.cert_format.proofs.Numerals.{decimal_digits}
use Rattle.cert_format.proofs.Spelt.{AllSolid, Solid, SolidLine, SolidLines}
use Rattle.cert_format.specs.declared.items.TheConstants.{MOST_NUMBER}

black_append : (a b : List ℕ) → list_all is_black a ≡ true → list_all is_black b ≡ true → list_all is_black (a ++ b) ≡ true
black_append [] b first second = second
black_append (x ∷ a) b first second =
    let both = and_parts (is_black x) (list_all is_black a) first in
    and_from (is_black x) (list_all is_black (a ++ b)) both.0 (black_append a b both.1 second)

black_type : (b : ℕ) (bytes : List ℕ) → is_black b ≡ true → list_all is_black bytes ≡ true → is_type (b ∷ bytes) ≡ true
black_type b bytes first rest = and_from (not (is_empty (b ∷ bytes))) (list_all is_black (b ∷ bytes)) (some b bytes) (and_from (is_black b) (list_all is_black bytes) first rest)
  where
    some : (b : ℕ) (bytes : List ℕ) → not (is_empty (b ∷ bytes)) ≡ true
    some b bytes = grind (arith, nat_tests)

black_of : (text : List ℕ) → is_type text ≡ true → list_all is_black text ≡ true
black_of text e = (and_parts (not (is_empty text)) (list_all is_black text) e).1

decimal_black : (n : ℕ) → n ≤ 1099511627776 → list_all is_black (decimal n) ≡ true
decimal_black n small = digits_black (decimal n) (decimal_digits n (omega (arith, small))).0

decimal_type : (n : ℕ) → n ≤ 1099511627776 → is_type (decimal n) ≡ true
decimal_type n small =
    let digits = decimal_digits n (omega (arith, small)) in
    and_from (not (is_empty (decimal n))) (list_all is_black (decimal n)) digits.1 (digits_black (decimal n) digits.0)

pub number_solid : (n : ℕ) → n ≤ 1099511627776 → Solid (decimal n)
number_solid n small = type_solid (decimal n) (decimal_type n small)

small_of : (n most : ℕ) → nat_le n most ≡ true → n ≤ most
small_of n most e = grind (arith, nat_tests)

signed_solid : (below above : ℕ) (n : ℤ) → below ≤ 1099511627776 → above ≤ 1099511627776 → is_within below above n ≡ true → Solid (signed_decimal n)
signed_solid below above (pos n) low high e = let small = small_of n above e in number_solid n (omega (arith, small, high))
signed_solid below above (negsuc n) low high e =
    let small = small_of (suc n) below e in
    type_solid (signed_decimal (negsuc n)) (black_type 45 (decimal (suc n)) refl (decimal_black (suc n) (omega (arith, small, low))))

hex_black : (n : ℕ) → n < 16 → is_black (hex_digit n) ≡ true
hex_black n small = by_low (nat_lt n 10) refl
  where
    high_is : (b : ℕ) → 33 ≤ b → is_black b ≡ true
    high_is b high = grind (arith, nat_tests)

    by_low : (t : Bool) → nat_lt n 10 ≡ t → is_black (cond t (48 + n) (87 + n)) ≡ true
    by_low true is = high_is (48 + n) (omega arith)
    by_low false is = high_is (87 + n) (omega arith)

bytes_black : (bytes : List ℕ) → IsByteList bytes → list_all is_black (hex_digits bytes) ≡ true
bytes_black [] is = refl
bytes_black (b ∷ bytes) is =
    let high : b / 16 < 16 = omega (arith, is.0) in
    let low : b % 16 < 16 = omega (arith, is.0) in
    and_from (is_black (hex_digit (b / 16))) (list_all is_black (hex_digit (b % 16) ∷ hex_digits bytes)) (hex_black (b / 16) high)
    (and_from (is_black (hex_digit (b % 16))) (list_all is_black (hex_digits bytes)) (hex_black (b % 16) low) (bytes_black bytes is.1))

hex_solid : (bytes : List ℕ) → IsByteList bytes → Solid (hex_text bytes)
hex_solid [] is = type_solid (codes "-") refl
hex_solid (b ∷ bytes) is =
    let both = and_parts (is_black (hex_digit (b / 16))) (list_all is_black (hex_digit (b % 16) ∷ hex_digits bytes)) (bytes_black (b ∷ bytes) is) in
    type_solid (hex_digits (b ∷ bytes)) (black_type (hex_digit (b / 16)) (hex_digit (b % 16) ∷ hex_digits bytes) both.0 both.1)

kind_solid : (k : Kinds) → has_word k ≡ true → Solid (kind_text k)
kind_solid IntKind e = type_solid (codes "int") refl
kind_solid Str e = type_solid (codes "str") refl
kind_solid Missing e = type_solid (codes "miss") refl
kind_solid Optional e = type_solid (codes "opt") refl
kind_solid Func e = type_solid (codes "func") refl
kind_solid Any e = absurd (cc)

-- a word with a number behind it
word_number : (b : ℕ) (word : List ℕ) (n : ℕ) → is_black b ≡ true → list_all is_black word ≡ true → n ≤ 1099511627776 → Solid (b ∷ (word ++ decimal n))
word_number b word n first rest small =
    type_solid (b ∷ (word ++ decimal n)) (black_type b (word ++ decimal n) first (black_append word (decimal n) rest (decimal_black n small)))

term_solid : (has_pos : Bool) (next : ℕ) (t : Term) → next ≤ MOST_NUMBER → IsTerm has_pos next t → Solid (term_text t)
term_solid has_pos next (Value s) bound is = word_number 118 (97 ∷ (108 ∷ (117 ∷ (101 ∷ (58 ∷ []))))) s refl refl (omega (arith, bound, is))
term_solid has_pos next (Length s) bound is = word_number 108 (101 ∷ (110 ∷ (103 ∷ (116 ∷ (104 ∷ (58 ∷ [])))))) s refl refl (omega (arith, bound, is))
term_solid has_pos next (Names s) bound is = word_number 110 (97 ∷ (109 ∷ (101 ∷ (115 ∷ (58 ∷ []))))) s refl refl (omega (arith, bound, is))
term_solid has_pos next Pos bound is = type_solid (codes "pos") refl
term_solid has_pos next Count bound is = type_solid (codes "count") refl

numbered_black : (b n : ℕ) → is_black b ≡ true → n ≤ MOST_NUMBER → list_all is_black (b ∷ decimal n) ≡ true
numbered_black b n first small = and_from (is_black b) (list_all is_black (decimal n)) first (decimal_black n (omega (arith, small)))

reference_black : (r : Reference) → reference_number r ≤ MOST_NUMBER → list_all is_black (reference_text r) ≡ true
reference_black (row.Row n) small = numbered_black 114 n refl small
reference_black (row.ValueLow s) small = numbered_black 118 s.0 refl small
reference_black (row.ValueHigh s) small = numbered_black 119 s.0 refl small
reference_black (row.LengthLow s) small = numbered_black 108 s.0 refl small
reference_black (row.NamesLow s) small = numbered_black 110 s.0 refl small
reference_black (row.NamesHigh s) small = numbered_black 109 s.0 refl small
reference_black (row.ExactLow s) small = numbered_black 101 s.0 refl small
reference_black (row.ExactHigh s) small = numbered_black 102 s.0 refl small
reference_black (row.NonblankLength s) small = numbered_black 98 s.0 refl small
reference_black (row.NonblankNames s) small = numbered_black 99 s.0 refl small
reference_black (row.TextLow s) small = numbered_black 116 s.0 refl small
reference_black (row.TextHigh s) small = numbered_black 117 s.0 refl small
reference_black row.PosLow small = refl
reference_black row.PosHigh small = refl
reference_black row.CountLow small = refl
reference_black row.CountHigh small = refl

-- bytes that are all black can be an item
black_none : (text : List ℕ) → list_all is_black text ≡ true → is_type (58 ∷ text) ≡ true
black_none text e = black_type 58 text refl e

solid_joined : (a b : List ℕ) → Solid a → Solid b → Solid (a ++ b)
solid_joined a b first second =
    record {
      space = none_joined is_space a b first.space second.space;
      newline = none_joined is_newline a b first.newline second.newline;
    }

use_solid : (one : Use) → IsUse one → Solid (use_text one)
use_solid one is =
    let small : one.times ≤ MOST_NUMBER = is.0.1 in
    solid_joined (decimal one.times) (58 ∷ reference_text one.reference) (number_solid one.times (omega (arith, small)))
    (type_solid (58 ∷ reference_text one.reference) (black_none (reference_text one.reference) (reference_black one.reference is.1)))

uses_solid : (uses : List Use) → Each IsUse uses → AllSolid (map use_text uses)
uses_solid [] each = tt
uses_solid (x ∷ uses) each = (use_solid x each.0, uses_solid uses each.1)

proof_solid : (p : Proof) → IsProof p → AllSolid (proof_items p)
proof_solid p is = let small : p.divisor ≤ MOST_NUMBER = is.divisor.1 in (number_solid p.divisor (omega (arith, small)), uses_solid p.uses is.uses)

hint_solid : (h : Hint) → IsHint h → SolidLine (hint_items h)
hint_solid (hint.Apply n) is = (type_solid (codes "use") refl, (number_solid n (omega (arith, is)), tt))
hint_solid hint.Walk is = (type_solid (codes "walk") refl, tt)
hint_solid (hint.Loop n) is = (type_solid (codes "loop") refl, (number_solid n (omega (arith, is)), tt))
hint_solid (hint.Case n) is = (type_solid (codes "case") refl, (number_solid n (omega (arith, is)), tt))
hint_solid hint.Plain is = (type_solid (codes "plain") refl, tt)
hint_solid hint.Keep is = (type_solid (codes "keep") refl, tt)
hint_solid (hint.Drop p) is = (type_solid (codes "drop") refl, proof_solid p is)
hint_solid (hint.Step p) is = (type_solid (codes "step") refl, proof_solid p is)

-- lines that a list spells, one an item
each_solid : {A : Type 0} (P : A → Type 0) (f : A → List (List ℕ)) → ((x : A) → P x → SolidLine (f x)) → (xs : List A) → Each P xs → SolidLines (map f xs)
each_solid P f one [] each = tt
each_solid P f one (x ∷ xs) each = (one x each.0, each_solid P f one xs each.1)

-- lines that a list spells, some an item
all_solid : {A : Type 0} (P : A → Type 0) (f : A → Lines) → ((x : A) → P x → SolidLines (f x)) → (xs : List A) → Each P xs → SolidLines (each_lines f xs)
all_solid P f one [] each = tt
all_solid P f one (x ∷ xs) each = solid_append (f x) (each_lines f xs) (one x each.0) (all_solid P f one xs each.1)

hints_solid : (hints : List Hint) → Each IsHint hints → SolidLines (hints_lines hints)
hints_solid hints each = (
  (type_solid (codes "hints") refl, tt),
  solid_append (map hint_items hints) ((codes "end" ∷ []) ∷ []) (each_solid IsHint hint_items hint_solid hints each) ((type_solid (codes "end") refl, tt), tt),
)

-- each symbol at a place has 32 bits
small_syms : (next : ℕ) (syms : List Sym) → next ≤ MOST_NUMBER → are_placed next syms ≡ true → Each (λ s. s.0 ≤ MOST_NUMBER) syms
small_syms next [] bound e = tt
small_syms next (s ∷ syms) bound e =
    let both = and_parts (nat_le s.0 next) (are_placed (items.next_after next s) syms) e in
    let small = small_of s.0 next both.0 in
    (omega (arith, small, bound), small_syms (items.next_after next s) syms (omega arith) both.1)

each_parts : {A : Type 0} (P : A → Type 0) (a b : List A) → Each P (a ++ b) → Each P a × Each P b
each_parts P [] b each = (tt, each)
each_parts P (x ∷ a) b each = let rest = each_parts P a b each.1 in ((each.0, rest.0), rest.1)

syms_solid : (syms : List Sym) → Each (λ s. s.0 ≤ MOST_NUMBER) syms → AllSolid (map sym_text syms)
syms_solid [] each = tt
syms_solid (s ∷ syms) each = let small : s.0 ≤ MOST_NUMBER = each.0 in (number_solid s.0 (omega (arith, small)), syms_solid syms each.1)

stack_solid : (syms : List Sym) → Each (λ s. s.0 ≤ MOST_NUMBER) syms → SolidLines (stack_lines syms)
stack_solid [] each = tt
stack_solid (s ∷ syms) each = ((type_solid (codes "stack") refl, syms_solid (s ∷ syms) each), tt)

binds_solid : (names : List (List ℕ × Kind)) (word : List ℕ) (P : Bind → Type 0) → is_type word ≡ true
    → ((b : Bind) → P b → is_type (name_text names b.name) ≡ true) → (binds : List Bind) → Each P binds → Each (λ s. s.0 ≤ MOST_NUMBER) (bound_symbols binds)
    → SolidLines (map (bind_items word names) binds)
binds_solid names word P solid named [] each small = tt
binds_solid names word P solid named (b ∷ binds) each small =
    let low : b.sym.0 ≤ MOST_NUMBER = small.0 in (
      (type_solid word solid, (type_solid (name_text names b.name) (named b each.0), (number_solid b.sym.0 (omega (arith, low)), tt))),
      binds_solid names word P solid named binds each.1 small.1,
    )

fact_solid : (style : Style) (next : ℕ) → ArePlain style.names → next ≤ MOST_NUMBER → (x : Fact) → IsFact style next x → SolidLine (fact_items style.names x)
fact_solid style next plain bound (fact.Is s k) is = (type_solid (codes "is") refl, (number_solid s.0 (omega (arith, bound, is.0)), (kind_solid k is.1, tt)))
fact_solid style next plain bound (fact.Int s n) is =
    (type_solid (codes "int") refl, (number_solid s.0 (omega (arith, bound, is.0)), (signed_solid 2147483648 2147483647 n (lit≤ tt) (lit≤ tt) is.1, tt)))
fact_solid style next plain bound (fact.Text s t) is = (type_solid (codes "text") refl, (number_solid s.0 (omega (arith, bound, is.0)), (hex_solid t is.1, tt)))
fact_solid style next plain bound (fact.Call s n) is =
    (type_solid (codes "call") refl, (number_solid s.0 (omega (arith, bound, is.0)), (type_solid (name_text style.names n) (name_solid style.names n plain is.1), tt)))
fact_solid style next plain bound (fact.Block s n) is =
    (type_solid (codes "block") refl, (number_solid s.0 (omega (arith, bound, is.0)), (number_solid n (omega (arith, is.1)), tt)))
fact_solid style next plain bound (fact.Blank s) is = (type_solid (codes "blank") refl, (number_solid s.0 (omega (arith, bound, is)), tt))
fact_solid style next plain bound (fact.Nonblank s) is = (type_solid (codes "nonblank") refl, (number_solid s.0 (omega (arith, bound, is)), tt))
fact_solid style next plain bound (fact.Wellformed s) is = (type_solid (codes "wellformed") refl, (number_solid s.0 (omega (arith, bound, is)), tt))

parts_solid : (has_pos : Bool) (next : ℕ) → next ≤ MOST_NUMBER → (parts : List Part) → Each (IsPart has_pos next) parts → AllSolid (part_items parts)
parts_solid has_pos next bound [] each = tt
parts_solid has_pos next bound (x ∷ parts) each = (
  signed_solid 1099511627776 1099511627776 x.coefficient (lit≤ tt) (lit≤ tt) each.0.small,
  (term_solid has_pos next x.term bound each.0.term, parts_solid has_pos next bound parts each.1),
)

row_solid : (has_pos : Bool) (next : ℕ) → next ≤ MOST_NUMBER → (x : RowOf) → IsRow has_pos next x → SolidLine (row_items x)
row_solid has_pos next bound x is = (
  type_solid (codes "row") refl,
  (signed_solid 1099511627776 1099511627776 x.constant (lit≤ tt) (lit≤ tt) is.constant, parts_solid has_pos next bound x.parts is.parts),
)

pub piece_solid : (style : Style) (at_entry has_pos : Bool) (start : ℕ) → ArePlain style.names → start ≤ MOST_NUMBER → (piece : Piece)
    → IsPiece style at_entry has_pos start piece → SolidLines (piece_lines style.names piece)
piece_solid style at_entry has_pos start plain bound piece is =
    let names = style.names in
    let small = small_syms start (places_of piece) bound is.placed in
    let first = each_parts (λ s. s.0 ≤ MOST_NUMBER) piece.stack (bound_symbols piece.vars ++ bound_symbols piece.fields) small in
    let second = each_parts (λ s. s.0 ≤ MOST_NUMBER) (bound_symbols piece.vars) (bound_symbols piece.fields) first.1 in
    let next = next_behind start (places_of piece) in
    let low = behind_small start (places_of piece) bound in
    let vars = map (bind_items (codes "var") names) piece.vars in
    let fields = map (bind_items (codes "field") names) piece.fields in
    let facts = map (fact_items names) piece.facts in
    let rows = map row_items piece.rows in
    solid_append (stack_lines piece.stack) (vars ++ (fields ++ (facts ++ rows))) (stack_solid piece.stack first.0)
    (solid_append vars (fields ++ (facts ++ rows))
    (binds_solid names (codes "var") (λ bind. IsVariable at_entry names bind.name) refl
    (λ b v. name_solid names b.name plain (variable_name at_entry names b.name v)) piece.vars is.vars second.0)
    (solid_append fields (facts ++ rows)
    (binds_solid names (codes "field") (λ bind. IsField names bind.name × (at_entry ≡ true)) refl (λ b v. field_solid names b.name plain v.0) piece.fields is.fields second.1)
    (solid_append facts rows (each_solid (IsFact style next) (fact_items names) (fact_solid style next plain low) piece.facts is.facts)
    (each_solid (IsRow has_pos next) row_items (row_solid has_pos next low) piece.rows is.rows))))

marked_solid : (style : Style) (word : List ℕ) (at_entry has_pos : Bool) (start : ℕ) → ArePlain style.names → is_type word ≡ true → start ≤ MOST_NUMBER → (piece : Piece)
    → IsPiece style at_entry has_pos start piece → SolidLines (marked_lines word style.names piece)
marked_solid style word at_entry has_pos start plain solid bound piece is = ((type_solid word solid, tt), piece_solid style at_entry has_pos start plain bound piece is)

maybe_solid : (style : Style) (word : List ℕ) (at_entry has_pos : Bool) → ArePlain style.names → is_type word ≡ true → (o : Option Piece)
    → IfSome o (IsPiece style at_entry has_pos 0) → SolidLines (maybe_marked word style.names o)
maybe_solid style word at_entry has_pos plain solid (Some piece) is = marked_solid style word at_entry has_pos 0 plain solid (lit≤ tt) piece is
maybe_solid style word at_entry has_pos plain solid None is = tt

list_solid : (style : Style) (word : List ℕ) (at_entry has_pos : Bool) (start : ℕ) → ArePlain style.names → is_type word ≡ true → start ≤ MOST_NUMBER → (list : List Piece)
    → Each (IsPiece style at_entry has_pos start) list → SolidLines (all_marked word style.names list)
list_solid style word at_entry has_pos start plain solid bound list each =
    all_solid (IsPiece style at_entry has_pos start) (marked_lines word style.names) (marked_solid style word at_entry has_pos start plain solid bound) list each

word_solid : (word : List ℕ) (b : Bool) → is_type word ≡ true → SolidLines (word_lines word b)
word_solid word true solid = ((type_solid word solid, tt), tt)
word_solid word false solid = tt

head_solid : (names : List (List ℕ × Kind)) (entry whole : Bool) (writes : List NameId) → ArePlain names → Each (IsVariable entry names) writes
    → SolidLines (head_lines names entry whole writes)
head_solid names entry whole writes plain each =
    solid_append (word_lines (codes "entry") entry) (word_lines (codes "whole") whole ++ map (writes_items names) writes) (word_solid (codes "entry") entry refl)
    (solid_append (word_lines (codes "whole") whole) (map (writes_items names) writes) (word_solid (codes "whole") whole refl)
    (each_solid (IsVariable entry names) (writes_items names) (λ id v. (type_solid (codes "writes") refl, (type_solid (name_text names id) (name_solid names id plain (variable_name entry names id v)), tt))) writes each))

target_solid : (style : Style) (target : Target) → ArePlain style.names → IsNameable style target → Solid (body_text style target)
target_solid style (Named id) plain is = type_solid (name_text style.names id) (name_solid style.names id plain is)
target_solid style (BlockBody body) plain is =
    let n = block_number (Some (Some is.0)) in
    let small : is.0 ≤ 1073741824 = is.2 in
    subst (λ o. Solid (35 ∷ decimal (block_number o))) (sym is.1)
    (type_solid (35 ∷ decimal is.0) (black_type 35 (decimal is.0) refl (decimal_black is.0 (omega (arith, small)))))

summary_solid : (style : Style) → ArePlain style.names → (s : Summary) → IsSummary style s → SolidLines (summary_lines style s)
summary_solid style plain s is =
    let names = style.names in
    let pre = marked_lines (codes "pre") names s.pre in
    let posts = all_marked (codes "post") names s.posts in (
      (type_solid (codes "summary") refl, (target_solid style s.body plain is.body, tt)),
      solid_append (head_lines names s.entry s.whole s.writes) (pre ++ (posts ++ hints_lines s.hints)) (head_solid names s.entry s.whole s.writes plain is.writes.0)
          (solid_append pre (posts ++ hints_lines s.hints) (marked_solid style (codes "pre") s.entry s.entry 0 plain refl (lit≤ tt) s.pre is.pre)
          (solid_append posts (hints_lines s.hints)
          (list_solid style (codes "post") s.entry s.entry (next_behind 0 (places_of s.pre)) plain refl (behind_small 0 (places_of s.pre) (lit≤ tt)) s.posts is.posts)
          (hints_solid s.hints is.hints))),
    )

loop_solid : (style : Style) → ArePlain style.names → (l : Loop) → IsLoop style l → SolidLines (loop_lines style l)
loop_solid style plain l is =
    let names = style.names in
    let cases = all_marked (codes "case") names l.cases in
    let exits = all_marked (codes "exit") names l.exits in (
      (type_solid (codes "loop") refl, (target_solid style l.test plain is.test, (target_solid style l.body plain is.body, tt))),
      solid_append (head_lines names l.entry l.whole l.writes) (cases ++ (exits ++ hints_lines l.hints)) (head_solid names l.entry l.whole l.writes plain is.writes.0)
          (solid_append cases (exits ++ hints_lines l.hints) (list_solid style (codes "case") l.entry l.entry 0 plain refl (lit≤ tt) l.cases is.cases)
          (solid_append exits (hints_lines l.hints) (list_solid style (codes "exit") l.entry l.entry 0 plain refl (lit≤ tt) l.exits is.exits) (hints_solid l.hints is.hints))),
    )

command_solid : (style : Style) → ArePlain style.names → (c : CommandPart) → IsCommandPart style c → SolidLines (command_lines style c)
command_solid style plain c is =
    let names = style.names in
    let small : c.index ≤ 1073741824 = is.small in
    let after = maybe_marked (codes "after") names c.after in
    let visit = maybe_marked (codes "visit") names c.visit in
    let keeps = maybe_marked (codes "keeps") names c.keeps in (
      (type_solid (codes "command") refl, (number_solid c.index (omega (arith, small)), tt)),
      solid_append after (visit ++ (keeps ++ hints_lines c.hints)) (maybe_solid style (codes "after") true false plain refl c.after is.after)
          (solid_append visit (keeps ++ hints_lines c.hints) (maybe_solid style (codes "visit") true true plain refl c.visit is.visit)
          (solid_append keeps (hints_lines c.hints) (maybe_solid style (codes "keeps") true false plain refl c.keeps is.keeps) (hints_solid c.hints is.hints))),
    )

-- the lines of a certificate can be lines
pub cert_solid : (style : Style) → ArePlain style.names → (cert : Cert) → IsCert style cert → SolidLines (cert_lines style cert)
cert_solid style plain cert is =
    let small : cert.list ≤ 1 = is.list.1 in
    let s = each_lines (summary_lines style) cert.summaries in
    let l = each_lines (loop_lines style) cert.loops in
    let c = each_lines (command_lines style) cert.commands in
    let end : Lines = (codes "done" ∷ []) ∷ [] in (
      (type_solid (codes "bstcert") refl, (number_solid cert.list (omega (arith, small)), tt)),
      solid_append (cond_items style.names cert.cond) (s ++ (l ++ (c ++ end))) (lines_solid style.names cert.cond plain is.cond)
          (solid_append s (l ++ (c ++ end)) (all_solid (IsSummary style) (summary_lines style) (summary_solid style plain) cert.summaries is.summaries)
          (solid_append l (c ++ end) (all_solid (IsLoop style) (loop_lines style) (loop_solid style plain) cert.loops is.loops)
          (solid_append c end (all_solid (IsCommandPart style) (command_lines style) (command_solid style plain) cert.commands is.commands)
          ((type_solid (codes "done") refl, tt), tt)))),
    )
