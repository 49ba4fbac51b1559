-- Identifiers, pieces and values are what the grammar has, both ways.
use Rattle.std.proofs.Common.{◌≡◌, ℕ, zero, suc, ◌<◌, ◌≤◌, Bool, true, false, ◌&&◌, ◌||◌, not, cond, nat_eq, List, [], ◌∷◌, ◌++◌, append_assoc, length, take, drop, Option, None, Some, Result, Ok, Err, refl, sym, ap, subst, ◌∙◌, arith, eqb-true}
use Rattle.std.proofs.lemmas.Bool.Decides.{nat_tests}
use Rattle.std.proofs.lemmas.List.{take-append-drop, append-nil}
use Rattle.bv_base.specs.Bytes.{is_name_byte}
use Rattle.bv_base.specs.Runs.{after_white, ends_digits, is_black, is_digit, length_before, EndsBy, NoneOf}
use Rattle.bv_base.specs.Answers.{then_do}
use Rattle.name_table.specs.Names.{lowered}
use Rattle.bib_read.specs.declared.stop.Stop.{Stop}
use Rattle.bib_read.specs.declared.stop.Stop.TheVariants.{Unbalanced}
use Rattle.bib_read.specs.Grammar.{Piece, Braced, Quoted, Digits, Named, Gap, Identifier, IsPiece, IsValue, Mark, Run, is_inside}
use Rattle.bib_read.specs.Meaning.{piece_text, piece_warnings, value_text, value_warnings, warned}
use Rattle.bib_read.specs.Names.{value_of}
use Rattle.bib_read.specs.Parts.{identifier_at, is_first, passed, stands, take_identifier, take_mark}
use Rattle.bib_read.specs.Progress.{Progress}
use Rattle.bib_read.specs.RawFields.{or_nothing}
use Rattle.bib_read.specs.Runs.{begins_name, ends_name, inside_length, level_after}
use Rattle.bib_read.specs.Stops.{unexpected}
use Rattle.bib_read.specs.Values.{closed, joined, macro_joined, piece_at, take_closed, take_digits, take_equals, take_macro, take_piece, take_pieces, take_value, with_macro}
use Rattle.bib_read.specs.Warnings.{undefined_macro}
use Rattle.bib_read.proofs.Enough.{same_pieces}
use Rattle.bib_read.proofs.Gaps.{after_gap, at, gap_before, mark_first, mark_missed, mark_read, mark_stands, mark_taken, mark_there, run_before, run_taken}
use Rattle.bib_read.proofs.Shorter.{Below, passed_less, piece_below}
use Rattle.bv_base.proofs.ThenLemmas.{ok, ok_is, then_ok, where_ok}
use Rattle.std.proofs.Math.Seq.{take-append_seam, drop-append_seam}
use Rattle.std.proofs.lemmas.Bool.{and_parts, not-false, not-true}

-- identifiers
name_byte_black : (b : ℕ) → is_name_byte b ≡ true → is_black b ≡ true
name_byte_black b e = grind (arith, nat_tests)

pub begins_black : (name rest : List ℕ) → begins_name name ≡ true → EndsBy is_black (name ++ rest)
begins_black [] rest e = absurd (cc)
begins_black (b ∷ name) rest e = name_byte_black b (and_parts (is_name_byte b) (not (is_digit b)) e).0

begins_front : (name rest : List ℕ) → begins_name name ≡ true → begins_name (name ++ rest) ≡ true
begins_front [] rest e = absurd (cc)
begins_front (b ∷ name) rest e = e

begins_case : (b : ℕ) (bytes : List ℕ) (n : ℕ) (t : Bool) → ends_name b ≡ t → begins_name (b ∷ bytes) ≡ true
    → begins_name (take (cond t 0 (suc n)) (b ∷ bytes)) ≡ true
begins_case b bytes n false f e = e
begins_case b bytes n true f e =
    let inside : is_name_byte b ≡ true = (and_parts (is_name_byte b) (not (is_digit b)) e).0 in
    let outside : not (is_name_byte b) ≡ false = ap not inside in absurd (cc)

begins_run : (bytes : List ℕ) → begins_name bytes ≡ true → begins_name (take (length_before ends_name bytes) bytes) ≡ true
begins_run [] e = absurd (cc)
begins_run (b ∷ bytes) e = begins_case b bytes (length_before ends_name bytes) (ends_name b) refl e

-- what is given of an identifier, and what is left after it
abbrev pub named : List ℕ → List ℕ → Progress → List ℕ × Progress
named name rest p = (lowered name, at rest p)

pub identifier_read : (p : Progress) (found : List ℕ × Progress) → take_identifier p ≡ Ok found
    → (name : List ℕ) × Identifier name p.left found.1.left × (found ≡ named name found.1.left p)
identifier_read p found e =
    let bytes = after_white p.left in
    let name = take (length_before ends_name bytes) bytes in
    let rest = drop (length_before ends_name bytes) bytes in
    let w = where_ok (begins_name bytes) (Ok (lowered name, at rest p)) (unexpected bytes) found e in
    let same : found ≡ named name rest p = ok_is (named name rest p) found w.1 in
    let left : found.1.left ≡ rest = ap (λ (f : List ℕ × Progress). f.1.left) same in (
      name,
      subst (λ (l : List ℕ). Identifier name p.left l) (sym left)
          (bytes, gap_before p.left, run_before ends_name bytes, begins_run bytes w.0),
      same ∙ ap (λ (l : List ℕ). named name l p) (sym left),
    )

identifier_there : (bytes name rest : List ℕ) (p : Progress) → Run ends_name name bytes rest → begins_name name ≡ true
    → identifier_at bytes p ≡ Ok (named name rest p)
identifier_there bytes name rest p run begins =
    let taken = run_taken ends_name name bytes rest run in
    let first : begins_name bytes ≡ true = ap begins_name run.spelled ∙ begins_front name rest begins in
    let count = length_before ends_name bytes in
    let value : Result (List ℕ × Progress) Stop = Ok (named (take count bytes) (drop count bytes) p) in
    let stops : Result (List ℕ × Progress) Stop = Err (unexpected bytes) in
    ap (λ (t : Bool). cond t value stops) first
    ∙ ap (λ (l : List ℕ). ok (named l (drop count bytes) p)) taken.1
    ∙ ap (λ (l : List ℕ). ok (named name l p)) taken.2

pub identifier_taken : (name rest : List ℕ) (p : Progress) → Identifier name p.left rest → take_identifier p ≡ Ok (named name rest p)
identifier_taken name rest p i =
    let black : EndsBy is_black i.0 =
    subst (λ (l : List ℕ). EndsBy is_black l) (sym (i.2).spelled) (begins_black name rest i.3) in
    ap (λ (l : List ℕ). identifier_at l p) (after_gap p.left i.0 i.1 black) ∙ identifier_there i.0 name rest p i.2 i.3

-- texts in braces and in quotes
inside_case : (mark level b : ℕ) (bytes rest : List ℕ) (n : ℕ) (t : Bool) → (nat_eq level 0 && (nat_eq b mark || nat_eq b 125)) ≡ t
    → (drop n bytes ≡ mark ∷ rest → is_inside mark (level_after level b) (take n bytes) ≡ true)
    → drop (cond t 0 (suc n)) (b ∷ bytes) ≡ mark ∷ rest → is_inside mark level (take (cond t 0 (suc n)) (b ∷ bytes)) ≡ true
inside_case mark level b bytes rest n true f more e = (and_parts (nat_eq level 0) (nat_eq b mark || nat_eq b 125) f).0
inside_case mark level b bytes rest n false f more e =
    ap (λ (t : Bool). not t && is_inside mark (level_after level b) (take n bytes)) f ∙ more e

inside_read : (mark level : ℕ) (bytes rest : List ℕ) → drop (inside_length mark level bytes) bytes ≡ mark ∷ rest
    → is_inside mark level (take (inside_length mark level bytes) bytes) ≡ true
inside_read mark level [] rest e = absurd (cc)
inside_read mark level (b ∷ bytes) rest e =
    inside_case mark level b bytes rest (inside_length mark (level_after level b) bytes)
    (nat_eq level 0 && (nat_eq b mark || nat_eq b 125)) refl
    (inside_read mark (level_after level b) bytes rest) e

mark_ends : (mark level : ℕ) → nat_eq mark mark ≡ true → nat_eq level 0 ≡ true → (nat_eq level 0 && (nat_eq mark mark || nat_eq mark 125)) ≡ true
mark_ends mark level e f = ap (λ (t : Bool). t && (nat_eq mark mark || nat_eq mark 125)) f ∙ ap (λ (t : Bool). t || nat_eq mark 125) e

inside_taken : (mark level : ℕ) (text rest : List ℕ) → nat_eq mark mark ≡ true → is_inside mark level text ≡ true
    → inside_length mark level (text ++ mark ∷ rest) ≡ length text
inside_taken mark level [] rest same e =
    ap (λ (t : Bool). cond t 0 (suc (inside_length mark (level_after level mark) rest))) (mark_ends mark level same e)
inside_taken mark level (b ∷ text) rest same e =
    let ends = nat_eq level 0 && (nat_eq b mark || nat_eq b 125) in
    ap (λ (t : Bool). cond t 0 (suc (inside_length mark (level_after level b) (text ++ mark ∷ rest))))
    (not-true ends (and_parts (not ends) (is_inside mark (level_after level b) text) e).0)
    ∙ ap suc (inside_taken mark (level_after level b) text rest same (and_parts (not ends) (is_inside mark (level_after level b) text) e).1)

closed_read : (mark : ℕ) (text left : List ℕ) (p q : Progress) → closed mark text left p ≡ Ok q
    → (left ≡ mark ∷ q.left) × (q ≡ joined text q.left p)
closed_read mark text [] p q e = absurd (cc)
closed_read mark text (b ∷ left) p q e =
    let w = where_ok (nat_eq b mark) (Ok (joined text left p)) (Unbalanced (length (b ∷ left))) q e in
    let same : q ≡ joined text left p = ok_is (joined text left p) q w.1 in
    let l : q.left ≡ left = ap (λ (x : Progress). x.left) same in (
      ap (λ (k : ℕ). k ∷ left) (eqb-true b mark w.0) ∙ ap (λ (m : List ℕ). mark ∷ m) (sym l),
      same ∙ ap (λ (m : List ℕ). joined text m p) (sym l),
    )

-- a text in braces or quotes, behind the mark that begins it
record ClosedRead (mark : ℕ) (bytes : List ℕ) (p q : Progress) : Type 0 where
  text : List ℕ
  spelled : bytes ≡ text ++ mark ∷ q.left
  inside : is_inside mark 0 text ≡ true
  is : q ≡ joined text q.left p

take_closed_read : (mark : ℕ) (bytes : List ℕ) (p q : Progress) → take_closed mark bytes p ≡ Ok q → ClosedRead mark bytes p q
take_closed_read mark bytes p q e =
    let n = inside_length mark 0 bytes in
    let c = closed_read mark (take n bytes) (drop n bytes) p q e in
    record {
      text = take n bytes;
      spelled = sym (take-append-drop n bytes) ∙ ap (λ (l : List ℕ). take n bytes ++ l) c.0;
      inside = inside_read mark 0 bytes q.left c.0;
      is = c.1;
    }

closed_mark : (mark : ℕ) (text rest : List ℕ) (p : Progress) → nat_eq mark mark ≡ true
    → closed mark text (mark ∷ rest) p ≡ Ok (joined text rest p)
closed_mark mark text rest p same =
    let stops : Result Progress Stop = Err (Unbalanced (length (mark ∷ rest))) in
    ap (λ (t : Bool). cond t (ok (joined text rest p)) stops) same

take_closed_taken : (mark : ℕ) (text rest : List ℕ) (p : Progress) → nat_eq mark mark ≡ true → is_inside mark 0 text ≡ true
    → take_closed mark (text ++ mark ∷ rest) p ≡ Ok (joined text rest p)
take_closed_taken mark text rest p same inside =
    let bytes = text ++ mark ∷ rest in
    ap (λ (n : ℕ). closed mark (take n bytes) (drop n bytes) p) (inside_taken mark 0 text rest same inside)
    ∙ ap (λ (l : List ℕ). closed mark l (drop (length text) bytes) p) (take-append_seam text (mark ∷ rest))
    ∙ ap (λ (l : List ℕ). closed mark text l p) (drop-append_seam text (mark ∷ rest))
    ∙ closed_mark mark text rest p same

-- after a piece: its text is joined to those before it, and its warnings follow
abbrev pub with_piece : Piece → List ℕ → Progress → Progress
with_piece piece rest p =
    record p {
      left = rest;
      text = p.text ++ piece_text p.macros piece;
      warnings = p.warnings ++ piece_warnings p.macros piece;
    }

-- a text joined without a warning
joined_is : (text rest : List ℕ) (p : Progress)
    → joined text rest p ≡ record p { left = rest; text = p.text ++ text; warnings = p.warnings ++ [] }
joined_is text rest p =
    ap (λ (w : List (List ℕ)). record p { left = rest; text = p.text ++ text; warnings = w }) (sym (append-nil p.warnings))

macro_is : (name rest : List ℕ) (value : Option (List ℕ)) (p : Progress)
    → macro_joined name value (at rest p)
    ≡ record p { left = rest; text = p.text ++ or_nothing value; warnings = p.warnings ++ warned name value }
macro_is name rest (Some value) p = joined_is value rest p
macro_is name rest None p =
    ap (λ (t : List ℕ). record p { left = rest; text = t; warnings = p.warnings ++ undefined_macro name ∷ [] })
    (sym (append-nil p.text))

pub record PieceRead (p q : Progress) : Type 0 where
  pub piece : Piece
  pub spelled : IsPiece piece p.left q.left
  pub is : q ≡ with_piece piece q.left p

-- a text in braces or quotes, with the mark that begins it
record ClosedPiece (mark opens : ℕ) (p q : Progress) : Type 0 where
  text : List ℕ
  spelled : Mark opens p.left (text ++ mark ∷ q.left) × (is_inside mark 0 text ≡ true)
  is : q ≡ record p { left = q.left; text = p.text ++ text; warnings = p.warnings ++ [] }

closed_piece : (mark opens b : ℕ) (bytes : List ℕ) (p q : Progress) → Gap p.left (b ∷ bytes) → nat_eq b opens ≡ true
    → take_closed mark bytes p ≡ Ok q → ClosedPiece mark opens p q
closed_piece mark opens b bytes p q gap first e =
    let c = take_closed_read mark bytes p q e in
    let m : Mark opens p.left bytes = subst (λ (k : ℕ). Gap p.left (k ∷ bytes)) (eqb-true b opens first) gap in
    record {
      text = c.text;
      spelled = ((m.0, m.1, m.2 ∙ ap (λ (l : List ℕ). m.0 ++ opens ∷ l) c.spelled), c.inside);
      is = c.is ∙ joined_is c.text q.left p;
    }

digits_length : (b : ℕ) (bytes : List ℕ) (n : ℕ) → is_digit b ≡ true
    → 0 < length (take (cond (ends_digits b) 0 (suc n)) (b ∷ bytes))
digits_length b bytes n e =
    subst (λ (t : Bool). 0 < length (take (cond t 0 (suc n)) (b ∷ bytes))) (sym (ap not e)) (omega arith)

digits_read : (b : ℕ) (bytes : List ℕ) (p q : Progress) → Gap p.left (b ∷ bytes) → is_digit b ≡ true
    → ok {E = Stop} (take_digits (b ∷ bytes) p) ≡ Ok q → PieceRead p q
digits_read b bytes p q gap digit e =
    let n = length_before ends_digits (b ∷ bytes) in
    let text = take n (b ∷ bytes) in
    let rest = drop n (b ∷ bytes) in
    let same : q ≡ joined text rest p = ok_is (joined text rest p) q e in
    let left : q.left ≡ rest = ap (λ (x : Progress). x.left) same in
    record {
      piece = Digits text;
      spelled = subst (λ (l : List ℕ). IsPiece (Digits text) p.left l) (sym left)
          (b ∷ bytes, gap, run_before ends_digits (b ∷ bytes), digits_length b bytes (length_before ends_digits bytes) digit);
      is = same ∙ joined_is text rest p ∙ ap (λ (l : List ℕ). with_piece (Digits text) l p) (sym left);
    }

macro_read : (p q : Progress) → take_macro p ≡ Ok q → PieceRead p q
macro_read p q e =
    let t = then_ok (take_identifier p) (λ (found : List ℕ × Progress). Ok (with_macro found.0 found.1)) q e in
    let i = identifier_read p t.0 t.1 in
    let name = lowered i.0 in
    let rest = (t.0).1.left in
    let value = value_of name p.macros in
    let same : q ≡ with_macro name (at rest p) =
    ok_is (with_macro (t.0).0 (t.0).1) q t.2 ∙ ap (λ (f : List ℕ × Progress). with_macro f.0 f.1) i.2 in
    let is : q ≡ with_piece (Named i.0) rest p = same ∙ macro_is name rest value p in
    let left : q.left ≡ rest = ap (λ (x : Progress). x.left) is in
    record {
      piece = Named i.0;
      spelled = subst (λ (l : List ℕ). Identifier i.0 p.left l) (sym left) i.1;
      is = is ∙ ap (λ (l : List ℕ). with_piece (Named i.0) l p) (sym left);
    }

piece_case : (b : ℕ) (bytes : List ℕ) (p q : Progress) → Gap p.left (b ∷ bytes)
    → (x y z : Bool) → nat_eq b 123 ≡ x → nat_eq b 34 ≡ y → is_digit b ≡ z
    → cond x (take_closed 125 bytes p) (cond y (take_closed 34 bytes p) (cond z (Ok (take_digits (b ∷ bytes) p)) (take_macro p))) ≡ Ok q
    → PieceRead p q
piece_case b bytes p q gap true y z f g h e =
    let c = closed_piece 125 123 b bytes p q gap f e in record { piece = Braced c.text; spelled = c.spelled; is = c.is }
piece_case b bytes p q gap false true z f g h e =
    let c = closed_piece 34 34 b bytes p q gap g e in record { piece = Quoted c.text; spelled = c.spelled; is = c.is }
piece_case b bytes p q gap false false true f g h e = digits_read b bytes p q gap h e
piece_case b bytes p q gap false false false f g h e = macro_read p q e

piece_at_read : (bytes : List ℕ) (p q : Progress) → Gap p.left bytes → piece_at bytes p ≡ Ok q → PieceRead p q
piece_at_read [] p q gap e = absurd (cc)
piece_at_read (b ∷ bytes) p q gap e =
    piece_case b bytes p q gap (nat_eq b 123) (nat_eq b 34) (is_digit b) refl refl refl e

pub piece_read : (p q : Progress) → take_piece p ≡ Ok q → PieceRead p q
piece_read p q e = piece_at_read (after_white p.left) p q (gap_before p.left) e

-- the other way
digit_black : (b : ℕ) → is_digit b ≡ true → is_black b ≡ true
digit_black b e = grind (arith, nat_tests)

-- the first byte of digits, and of a name, begins neither braces nor quotes
digit_first : (b : ℕ) → is_digit b ≡ true → (nat_eq b 123 ≡ false) × (nat_eq b 34 ≡ false)
digit_first b e = (grind (arith, nat_tests), grind (arith, nat_tests))

name_first : (b : ℕ) → is_name_byte b ≡ true → (nat_eq b 123 ≡ false) × (nat_eq b 34 ≡ false)
name_first b e = (grind (arith, nat_tests), grind (arith, nat_tests))

digits_at : (text bytes rest : List ℕ) (p : Progress) → Run ends_digits text bytes rest → 0 < length text
    → piece_at bytes p ≡ Ok (joined text rest p)
digits_at [] bytes rest p run some = absurd (omega arith)
digits_at (b ∷ text) bytes rest p run some =
    let taken = run_taken ends_digits (b ∷ text) bytes rest run in
    let digit : is_digit b ≡ true = not-false (is_digit b) (run.inside).0 in
    let first = digit_first b digit in
    let all = b ∷ (text ++ rest) in
    let d : Result Progress Stop = Ok (take_digits all p) in
    ap (λ (l : List ℕ). piece_at l p) run.spelled
    ∙ ap (λ (t : Bool). cond t (take_closed 125 (text ++ rest) p) (cond (nat_eq b 34) (take_closed 34 (text ++ rest) p) (cond (is_digit b) d (take_macro p)))) first.0
    ∙ ap (λ (t : Bool). cond t (take_closed 34 (text ++ rest) p) (cond (is_digit b) d (take_macro p))) first.1
    ∙ ap (λ (t : Bool). cond t d (take_macro p)) digit
    ∙ ap (λ (l : List ℕ). ok (take_digits l p)) (sym run.spelled)
    ∙ ap (λ (l : List ℕ). ok (joined l (drop (length_before ends_digits bytes) bytes) p)) taken.1
    ∙ ap (λ (l : List ℕ). ok (joined (b ∷ text) l p)) taken.2

name_at : (b : ℕ) (bytes : List ℕ) (p : Progress) → begins_name (b ∷ bytes) ≡ true → piece_at (b ∷ bytes) p ≡ take_macro p
name_at b bytes p e =
    let inside : is_name_byte b ≡ true = (and_parts (is_name_byte b) (not (is_digit b)) e).0 in
    let plain : is_digit b ≡ false = not-true (is_digit b) (and_parts (is_name_byte b) (not (is_digit b)) e).1 in
    let first = name_first b inside in
    let d : Result Progress Stop = Ok (take_digits (b ∷ bytes) p) in
    ap (λ (t : Bool). cond t (take_closed 125 bytes p) (cond (nat_eq b 34) (take_closed 34 bytes p) (cond (is_digit b) d (take_macro p)))) first.0
    ∙ ap (λ (t : Bool). cond t (take_closed 34 bytes p) (cond (is_digit b) d (take_macro p))) first.1
    ∙ ap (λ (t : Bool). cond t d (take_macro p)) plain

name_at_front : (name rest : List ℕ) (p : Progress) → begins_name name ≡ true → piece_at (name ++ rest) p ≡ take_macro p
name_at_front [] rest p e = absurd (cc)
name_at_front (b ∷ name) rest p e = name_at b (name ++ rest) p e

macro_taken : (name rest : List ℕ) (p : Progress) → Identifier name p.left rest → take_macro p ≡ Ok (with_piece (Named name) rest p)
macro_taken name rest p i =
    let then : List ℕ × Progress → Result Progress Stop = λ found. Ok (with_macro found.0 found.1) in
    ap (λ (r : Result (List ℕ × Progress) Stop). then_do r then) (identifier_taken name rest p i)
    ∙ ap ok (macro_is (lowered name) rest (value_of (lowered name) p.macros) p)

digits_black : (text rest : List ℕ) → NoneOf ends_digits text → 0 < length text → EndsBy is_black (text ++ rest)
digits_black [] rest none some = absurd (omega arith)
digits_black (b ∷ text) rest none some = digit_black b (not-false (is_digit b) none.0)

pub piece_taken : (piece : Piece) (rest : List ℕ) (p : Progress) → IsPiece piece p.left rest
    → take_piece p ≡ Ok (with_piece piece rest p)
piece_taken (Braced text) rest p i =
    ap (λ (l : List ℕ). piece_at l p) (mark_first 123 p.left (text ++ 125 ∷ rest) refl i.0)
    ∙ take_closed_taken 125 text rest p refl i.1
    ∙ ap ok (joined_is text rest p)
piece_taken (Quoted text) rest p i =
    ap (λ (l : List ℕ). piece_at l p) (mark_first 34 p.left (text ++ 34 ∷ rest) refl i.0)
    ∙ take_closed_taken 34 text rest p refl i.1
    ∙ ap ok (joined_is text rest p)
piece_taken (Digits text) rest p i =
    let black : EndsBy is_black i.0 =
    subst (λ (l : List ℕ). EndsBy is_black l) (sym (i.2).spelled) (digits_black text rest (i.2).inside i.3) in
    ap (λ (l : List ℕ). piece_at l p) (after_gap p.left i.0 i.1 black)
    ∙ digits_at text i.0 rest p i.2 i.3
    ∙ ap ok (joined_is text rest p)
piece_taken (Named name) rest p i =
    let black : EndsBy is_black i.0 =
    subst (λ (l : List ℕ). EndsBy is_black l) (sym (i.2).spelled) (begins_black name rest i.3) in
    ap (λ (l : List ℕ). piece_at l p) (after_gap p.left i.0 i.1 black ∙ (i.2).spelled)
    ∙ name_at_front name rest p i.3
    ∙ macro_taken name rest p i

-- values
abbrev pub with_pieces : List Piece → List ℕ → Progress → Progress
with_pieces pieces rest p =
    record p {
      left = rest;
      text = p.text ++ value_text p.macros pieces;
      warnings = p.warnings ++ value_warnings p.macros pieces;
    }

one_piece : (piece : Piece) (rest : List ℕ) (p : Progress) → with_piece piece rest p ≡ with_pieces (piece ∷ []) rest p
one_piece piece rest p =
    ap (λ (t : List ℕ). record p { left = rest; text = p.text ++ t; warnings = p.warnings ++ piece_warnings p.macros piece })
    (sym (append-nil (piece_text p.macros piece)))
    ∙ ap (λ (w : List (List ℕ)). record p { left = rest; text = p.text ++ value_text p.macros (piece ∷ []); warnings = p.warnings ++ w })
    (sym (append-nil (piece_warnings p.macros piece)))

more_pieces : (piece : Piece) (pieces : List Piece) (between rest : List ℕ) (p : Progress)
    → with_pieces pieces rest (with_piece piece between p) ≡ with_pieces (piece ∷ pieces) rest p
more_pieces piece pieces between rest p =
    let w = (p.warnings ++ piece_warnings p.macros piece) ++ value_warnings p.macros pieces in
    ap (λ (t : List ℕ). record p { left = rest; text = t; warnings = w })
    (append_assoc p.text (piece_text p.macros piece) (value_text p.macros pieces))
    ∙ ap (λ (v : List (List ℕ)). record p { left = rest; text = p.text ++ value_text p.macros (piece ∷ pieces); warnings = v })
    (append_assoc p.warnings (piece_warnings p.macros piece) (value_warnings p.macros pieces))

pub record PiecesRead (p q : Progress) : Type 0 where
  pub pieces : List Piece
  pub rest : List ℕ
  pub spelled : IsValue pieces p.left rest
  pub is : q ≡ with_pieces pieces (after_white rest) p

value_more : (piece : Piece) (pieces : List Piece) (bytes between more rest : List ℕ) → IsPiece piece bytes between
    → Mark 35 between more → IsValue pieces more rest → IsValue (piece ∷ pieces) bytes rest
value_more piece [] bytes between more rest i m v = absurd v
value_more piece (next ∷ pieces) bytes between more rest i m v = (between, more, i, m, v)

pieces_case : (n : ℕ) (p q a : Progress) → PieceRead p a → ((x y : Progress) → take_pieces n x ≡ Ok y → PiecesRead x y)
    → (t : Bool) → stands 35 a ≡ t → cond t (take_pieces n (passed 35 a)) (Ok (passed 35 a)) ≡ Ok q → PiecesRead p q
pieces_case n p q a one more true hash e =
    let r = more (passed 35 a) q e in
    record {
      pieces = one.piece ∷ r.pieces;
      rest = r.rest;
      spelled = value_more one.piece r.pieces p.left a.left (passed 35 a).left r.rest one.spelled (mark_there 35 a hash) r.spelled;
      is = r.is ∙ ap (λ (x : Progress). with_pieces r.pieces (after_white r.rest) x) one.is
          ∙ more_pieces one.piece r.pieces a.left (after_white r.rest) p;
    }
pieces_case n p q a one more false hash e =
    record {
      pieces = one.piece ∷ [];
      rest = a.left;
      spelled = one.spelled;
      is = ok_is (passed 35 a) q e ∙ mark_missed 35 a hash ∙ ap (λ (x : Progress). at (after_white a.left) x) one.is
          ∙ one_piece one.piece (after_white a.left) p;
    }

pub pieces_read : (n : ℕ) (p q : Progress) → take_pieces n p ≡ Ok q → PiecesRead p q
pieces_read zero p q e = absurd (cc)
pieces_read (suc n) p q e =
    let t = then_ok (take_piece p) (λ (x : Progress). cond (stands 35 x) (take_pieces n (passed 35 x)) (Ok (passed 35 x))) q e in
    pieces_case n p q t.0 (piece_read p t.0 t.1) (λ x y f. pieces_read n x y f) (stands 35 t.0) refl t.2

-- the other way: after the pieces no `#` stands
abbrev pub NoHash : List ℕ → Type 0
NoHash rest = is_first 35 (after_white rest) ≡ false

abbrev rest_of_pieces : ℕ → Progress → Result Progress Stop
rest_of_pieces n x = cond (stands 35 x) (take_pieces n (passed 35 x)) (Ok (passed 35 x))

pub pieces_taken : (pieces : List Piece) (n : ℕ) (p : Progress) (rest : List ℕ) → IsValue pieces p.left rest → NoHash rest
    → length p.left ≤ suc n → take_pieces (suc n) p ≡ Ok (with_pieces pieces (after_white rest) p)
pieces_taken [] n p rest v ends few = absurd v
pieces_taken (piece ∷ []) n p rest v ends few =
    let a = with_piece piece rest p in
    ap (λ (r : Result Progress Stop). then_do r (rest_of_pieces n)) (piece_taken piece rest p v)
    ∙ ap (λ (t : Bool). cond t (take_pieces n (passed 35 a)) (Ok (passed 35 a))) ends
    ∙ ap ok (mark_missed 35 a ends ∙ one_piece piece (after_white rest) p)
pieces_taken (piece ∷ (next ∷ pieces)) n p rest v ends few =
    let a = with_piece piece v.0 p in
    let taken : take_piece p ≡ Ok a = piece_taken piece v.0 p v.2 in
    let s = mark_stands 35 a v.1 refl v.3 in
    let less : length v.0 < length p.left = subst (Below (length p.left)) taken (piece_below p) in
    let less2 : length (passed 35 a).left < length v.0 = passed_less 35 a s.0 in
    let left : length (passed 35 a).left ≡ length v.1 = ap (λ (x : Progress). length x.left) s.1 in
    let fewer : length v.1 ≤ n = omega arith in
    let fewer2 : length v.1 ≤ suc n = omega arith in
    ap (λ (r : Result Progress Stop). then_do r (rest_of_pieces n)) taken
    ∙ ap (λ (t : Bool). cond t (take_pieces n (passed 35 a)) (Ok (passed 35 a))) s.0
    ∙ ap (λ (x : Progress). take_pieces n x) s.1
    ∙ same_pieces n (suc n) (at v.1 a) fewer fewer2
    ∙ pieces_taken (next ∷ pieces) n (at v.1 a) rest v.4 ends fewer2
    ∙ ap ok (more_pieces piece (next ∷ pieces) v.1 (after_white rest) p)

-- after a value: its text alone is that of the pieces that have been read
abbrev pub valued : List Piece → List ℕ → Progress → Progress
valued value rest p =
    record p { left = rest; text = value_text p.macros value; warnings = p.warnings ++ value_warnings p.macros value }

pub record ValueRead (p q : Progress) : Type 0 where
  pub value : List Piece
  pub rest : List ℕ
  pub spelled : IsValue value p.left rest
  pub is : q ≡ valued value (after_white rest) p

pub value_read : (p q : Progress) → take_value p ≡ Ok q → ValueRead p q
value_read p q e =
    let r = pieces_read (length p.left) (record p { text = [] }) q e in
    record { value = r.pieces; rest = r.rest; spelled = r.spelled; is = r.is }

pub value_taken : (value : List Piece) (p : Progress) (rest : List ℕ) → IsValue value p.left rest → NoHash rest
    → take_value p ≡ Ok (valued value (after_white rest) p)
value_taken value p rest v ends =
    same_pieces (length p.left) (suc (length p.left)) (record p { text = [] }) (omega arith) (omega arith)
    ∙ pieces_taken value (length p.left) (record p { text = [] }) rest v ends (omega arith)

-- `=` and a value
pub record EqualsRead (bytes : List ℕ) (p q : Progress) : Type 0 where
  pub more : List ℕ
  pub value : List Piece
  pub rest : List ℕ
  pub mark : Mark 61 bytes more
  pub spelled : IsValue value more rest
  pub is : q ≡ valued value (after_white rest) p

pub equals_read : (p q : Progress) → take_equals p ≡ Ok q → EqualsRead p.left p q
equals_read p q e =
    let t = then_ok (take_mark 61 p) take_value q e in
    let m = mark_read 61 p t.0 t.1 in
    let v = value_read t.0 q t.2 in
    record {
      more = (t.0).left;
      value = v.value;
      rest = v.rest;
      mark = m.0;
      spelled = v.spelled;
      is = v.is ∙ ap (λ (x : Progress). valued v.value (after_white v.rest) x) m.1;
    }

pub equals_taken : (value : List Piece) (more rest : List ℕ) (p : Progress) → Mark 61 p.left more → IsValue value more rest → NoHash rest
    → take_equals p ≡ Ok (valued value (after_white rest) p)
equals_taken value more rest p m v ends =
    ap (λ (r : Result Progress Stop). then_do r take_value) (mark_taken 61 p more refl m)
    ∙ value_taken value (at more p) rest v ends
