-- The lines of a text, as the grammar has them.
use Rattle.std.proofs.Common.{◌≡◌, ◌≢◌, ℕ, ◌+◌, ◌-◌, ◌<◌, inl, inr, Bool, true, false, not, nat_eq, List, [], ◌∷◌, ◌++◌, length, length-append, get_or, le_refl, refl, sym, ap, subst, ◌∙◌, arith}
use Rattle.std.specs.List.{list_all}
use Rattle.std.proofs.Math.Seq.{get_or-append_seam}
use Rattle.std.proofs.lemmas.Bool.{and_from, eq-eqb, eqb-true, false≢true, not_from_false}
use Rattle.std.proofs.lemmas.List.{append-nil, get_or_append_left}
use Rattle.std.proofs.lemmas.List.Folds.{list_all_at}
use Rattle.bstr.specs.Text.{lines_of}
use Rattle.bstr.proofs.lemmas.LineLemmas.{EndsLine, lines-append, lines-nil, lines-one}
use Rattle.aux_read.specs.Grammar.{Ends, Without}

-- a text is these lines
abbrev pub Lined : List (List ℕ) → List ℕ → Type 0
Lined [] text = text ≡ []
Lined (line ∷ lines) text = (rest : List ℕ) × (text ≡ line ++ rest) × Ends line rest × Lined lines rest

-- a byte that stands nowhere in a text isn't at any place of it
not_inside : (byte : ℕ) (text : List ℕ) (at : ℕ) → Without byte text → at < length text → get_or text at 0 ≢ byte
not_inside byte text at without within is =
    false≢true
    (sym (list_all_at (λ b. not (nat_eq b byte)) text at 0 within (ap (λ b. not (nat_eq b byte)) is ∙ ap not (eq-eqb byte byte refl)))
    ∙ without)

-- a line that ends with its one byte 10 is one line, which the lines of the rest follow
ended_line : (text rest : List ℕ) → Without 10 text
    → lines_of ((text ++ 10 ∷ []) ++ rest) ≡ (text ++ 10 ∷ []) ∷ lines_of rest
ended_line text rest without =
    let line = text ++ 10 ∷ [] in
    let long : length line ≡ length text + 1 = length-append text (10 ∷ []) in
    let place : length line - 1 ≡ length text = omega arith in
    let ends : EndsLine line = inr (ap (λ n. get_or line n 0) place ∙ get_or-append_seam text 10 [] 0) in
    let none : (k : ℕ) → k + 1 < length line → get_or line k 0 ≢ 10 =
    λ k below is.
    not_inside 10 text k without (omega arith) (sym (get_or_append_left text (10 ∷ []) 0 k (omega arith)) ∙ is) in
    lines-append (length line) line rest (le_refl (length line)) ends
    ∙ ap (λ l. l ++ lines_of rest) (lines-one line (omega arith) none)

-- the first line of a text, and those of the rest
first_line : (line rest : List ℕ) → Ends line rest → lines_of (line ++ rest) ≡ line ∷ lines_of rest
first_line line rest (text, without, inl is) =
    subst (λ (l : List ℕ). lines_of (l ++ rest) ≡ l ∷ lines_of rest) (sym is) (ended_line text rest without)
first_line line rest (text, without, inr end) =
    let whole : Without 10 line = subst (Without 10) (sym end.0) without in
    let long : length line ≡ length text = ap length end.0 in
    ap (λ r. lines_of (line ++ r)) end.2 ∙ ap lines_of (append-nil line)
    ∙ lines-one line (omega (arith, end.1)) (λ k below. not_inside 10 line k whole (omega arith))
    ∙ ap (λ l. line ∷ l) (sym lines-nil) ∙ ap (λ r. line ∷ lines_of r) (sym end.2)

-- the lines of a text are these
pub lines_are : (lines : List (List ℕ)) (text : List ℕ) → Lined lines text → lines_of text ≡ lines
lines_are [] text is = ap lines_of is ∙ lines-nil
lines_are (line ∷ lines) text (rest, is, ends, more) =
    ap lines_of is ∙ first_line line rest ends ∙ ap (λ l. line ∷ l) (lines_are lines rest more)

-- lines that a text is
pub record AsLines (text : List ℕ) : Type 0 where
  pub lines : List (List ℕ)
  pub lined : Lined lines text

without_more : (b : ℕ) (text : List ℕ) → nat_eq b 10 ≡ false → Without 10 text → Without 10 (b ∷ text)
without_more b text other without =
    and_from (not (nat_eq b 10)) (list_all (λ c. not (nat_eq c 10)) text) (not_from_false (nat_eq b 10) other) without

-- a byte 10 before lines is a line of its own, and another byte belongs to the first of them
byte_before : (b : ℕ) (text : List ℕ) (t : Bool) → nat_eq b 10 ≡ t → (lines : List (List ℕ)) → Lined lines text → AsLines (b ∷ text)
byte_before b text true is lines lined =
    record { lines = (b ∷ []) ∷ lines; lined = (text, refl, ([], refl, inl (ap (λ c. c ∷ []) (eqb-true b 10 is))), lined) }
byte_before b text false is [] lined =
    record { lines = (b ∷ []) ∷ []; lined = (text, refl, (b ∷ [], without_more b [] is refl, inr (refl, omega arith, lined)), lined) }
byte_before b text false is (line ∷ lines) (rest, joined, (first, without, inl ended), lined) =
    record {
      lines = (b ∷ line) ∷ lines;
      lined = (rest, ap (λ l. b ∷ l) joined, (b ∷ first, without_more b first is without, inl (ap (λ l. b ∷ l) ended)), lined);
    }
byte_before b text false is (line ∷ lines) (rest, joined, (first, without, inr ended), lined) =
    record {
      lines = (b ∷ line) ∷ lines;
      lined = (
        rest,
        ap (λ l. b ∷ l) joined,
        (b ∷ first, without_more b first is without, inr (ap (λ l. b ∷ l) ended.0, omega arith, ended.2)),
        lined,
      );
    }

pub as_lines : (text : List ℕ) → AsLines text
as_lines [] = record { lines = []; lined = refl }
as_lines (b ∷ text) = let more = as_lines text in byte_before b text (nat_eq b 10) refl more.lines more.lined
