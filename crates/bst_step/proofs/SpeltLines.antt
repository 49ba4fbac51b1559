-- The lines of a page that are spelt behind a text.
use Rattle.std.proofs.Common.{◌≡◌, ℕ, zero, suc, Bool, true, false, cond, List, [], ◌∷◌, ◌++◌, Option, None, Some, length, ◌∙◌, sym, ap, append-nil}
use Rattle.std.specs.List.{flat_map}
use Rattle.std.proofs.lemmas.List.{flat_map_more}
use Rattle.bst_meaning.specs.Config.{Event, Wrote, EndedLine}
use Rattle.bst_meaning.specs.Lines.{Cut, Page, after_event, broken, cut_of, is_only_white, page_of, trimmed_end}
use Rattle.bst_step.specs.Lines.{Spelt, spelt}

-- a line with its line end, and lines with theirs
abbrev end_of : List ℕ → List ℕ
end_of line = line ++ 10 ∷ []

abbrev ends_of : List (List ℕ) → List ℕ
ends_of lines = flat_map (λ line. line ++ 10 ∷ []) lines

-- lines that were there before are spelt as a part of the text
same_page : (text : List ℕ) (lines : List (List ℕ)) (buffer : List ℕ)
    → spelt text (record { lines = lines; buffer = buffer }) ≡ spelt (text ++ ends_of lines) (record { lines = []; buffer = buffer })
same_page text lines buffer =
    ap (λ (t : List ℕ). record { text = t; buffer = buffer }) (sym (append-nil (text ++ ends_of lines)))

-- no line adds nothing, and one line itself
same_text : (text buffer : List ℕ) → spelt text (record { lines = []; buffer = buffer }) ≡ record { text = text; buffer = buffer }
same_text text buffer = ap (λ (t : List ℕ). record { text = t; buffer = buffer }) (append-nil text)

one_line : (text line : List ℕ) (page : Page) → spelt (text ++ ends_of (line ∷ [])) page ≡ spelt (text ++ end_of line) page
one_line text line page = ap (λ (t : List ℕ). spelt (text ++ t) page) (append-nil (end_of line))

-- the lines that a buffer finishes are spelt behind those before
broken_behind : (n : ℕ) (text : List ℕ) (lines : List (List ℕ)) (buffer : List ℕ)
    → spelt text (broken n lines buffer) ≡ spelt (text ++ ends_of lines) (broken n [] buffer)
broken_behind zero text lines buffer = same_page text lines buffer
broken_behind (suc n) text lines buffer = by (cut_of buffer) (λ text lines buffer. broken_behind n text lines buffer)
  where
    by : (o : Option Cut)
        → ((text : List ℕ) (lines : List (List ℕ)) (buffer : List ℕ)
        → spelt text (broken n lines buffer) ≡ spelt (text ++ ends_of lines) (broken n [] buffer))
        → spelt text (page_of (broken n) lines buffer o) ≡ spelt (text ++ ends_of lines) (page_of (broken n) [] buffer o)
    by None behind = same_page text lines buffer
    by (Some cut) behind =
        behind text (lines ++ cut.line ∷ []) cut.rest
        ∙ ap (λ (t : List ℕ). spelt t (broken n [] cut.rest)) (sym (flat_map_more end_of text lines cut.line))
        ∙ sym (one_line (text ++ ends_of lines) cut.line (broken n [] cut.rest))
        ∙ sym (behind (text ++ ends_of lines) (cut.line ∷ []) cut.rest)

-- a line that was finished is spelt behind the text
pub line_behind : (n : ℕ) (text line buffer : List ℕ)
    → spelt (text ++ end_of line) (broken n [] buffer) ≡ spelt text (broken n (line ∷ []) buffer)
line_behind n text line buffer =
    sym (one_line text line (broken n [] buffer)) ∙ sym (broken_behind n text (line ∷ []) buffer)

-- what an event makes of a page is spelt behind the lines before
pub event_spelt : (text : List ℕ) (page : Page) (event : Event)
    → spelt text (after_event page event) ≡ spelt (text ++ ends_of page.lines) (after_event (record { lines = []; buffer = page.buffer }) event)
event_spelt text page (Wrote bytes) = broken_behind (length (page.buffer ++ bytes)) text page.lines (page.buffer ++ bytes)
event_spelt text page EndedLine = by (is_only_white page.buffer)
  where
    by : (t : Bool) → spelt text (record { lines = cond t page.lines (page.lines ++ trimmed_end page.buffer ∷ []); buffer = [] })
        ≡ spelt (text ++ ends_of page.lines) (record { lines = cond t [] (trimmed_end page.buffer ∷ []); buffer = [] })
    by true = same_page text page.lines []
    by false =
        ap (λ (t : List ℕ). record { text = t; buffer = [] }) (sym (flat_map_more end_of text page.lines (trimmed_end page.buffer)))
        ∙ ap (λ (t : List ℕ). record { text = (text ++ ends_of page.lines) ++ t; buffer = [] }) (sym (append-nil (end_of (trimmed_end page.buffer))))

-- a buffer that isn't cut stays
pub none_behind : (most : ℕ) (text buffer : List ℕ) (whole : Spelt) → cut_of buffer ≡ None → spelt text (broken most [] buffer) ≡ whole
    → record { text = text; buffer = buffer } ≡ whole
none_behind zero text buffer whole none is = sym (same_text text buffer) ∙ is
none_behind (suc most) text buffer whole none is =
    sym (same_text text buffer) ∙ ap (λ (o : Option Cut). spelt text (page_of (broken most) [] buffer o)) (sym none) ∙ is
