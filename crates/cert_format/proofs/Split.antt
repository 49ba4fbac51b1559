-- A text is the bytes of its lines, where each ends with byte 10.
use Rattle.std.proofs.Common.{◌≡◌, ℕ, ◌+◌, ◌<◌, Bool, true, false, cond, List, [], ◌∷◌, ◌++◌, length, map, refl, sym, ap, ◌∙◌, arith}
use Rattle.std.proofs.lemmas.Bool.{eqb-true}
use Rattle.cert_format.specs.Lines.{Item, Line, Stretch, begun, is_newline, is_space, items_of, line_of, lines_of, longer, stretches}
use Rattle.cert_format.specs.Spelling.{after_item, line_text, text_of}
use Rattle.cert_format.proofs.Lined.{first_item}

-- the items of a line, as their bytes
abbrev pub texts_of : List Item → List (List ℕ)
texts_of items = map (λ item. item.text) items

-- the items of a line, as their bytes
abbrev pub texts : Line → List (List ℕ)
texts line = texts_of line.items

-- a line ends with byte 10
abbrev pub Ended : Line → Type 0
Ended line = 0 < line.end

after_is : (items : List Item) (first : Item) (more : List Item) → items ≡ first ∷ more → after_item (texts_of items) ≡ 32 ∷ line_text (texts_of items)
after_is items first more is = ap (λ (l : List Item). after_item (texts_of l)) is ∙ ap (λ (l : List Item). 32 ∷ line_text (texts_of l)) (sym is)

begun_is : (b : ℕ) (items : List Item) (first : Item) (more : List Item) → items ≡ first ∷ more
    → line_text (texts_of (begun b items)) ≡ b ∷ line_text (texts_of items)
begun_is b items first more is =
    ap (λ (l : List Item). line_text (texts_of (begun b l))) is ∙ ap (λ (l : List Item). b ∷ line_text (texts_of l)) (sym is)

text_case : (end b : ℕ) (bytes : List ℕ) (t : Bool) → is_space b ≡ t → line_text (texts_of (items_of end bytes)) ≡ bytes ++ 10 ∷ []
    → line_text (texts_of (cond t (record { text = []; left = length (b ∷ bytes) + end } ∷ items_of end bytes) (begun b (items_of end bytes)))) ≡ (b ∷ bytes) ++ 10 ∷ []
text_case end b bytes true is h =
    after_is (items_of end bytes) _ _ (first_item end bytes) ∙ ap (λ (t : List ℕ). 32 ∷ t) h ∙ ap (λ (c : ℕ). c ∷ (bytes ++ 10 ∷ [])) (sym (eqb-true b 32 is))
text_case end b bytes false is h = begun_is b (items_of end bytes) _ _ (first_item end bytes) ∙ ap (λ (t : List ℕ). b ∷ t) h

-- the items of a line spell its bytes
pub items_text : (end : ℕ) (bytes : List ℕ) → line_text (texts_of (items_of end bytes)) ≡ bytes ++ 10 ∷ []
items_text end [] = refl
items_text end (b ∷ bytes) = text_case end b bytes (is_space b) refl (items_text end bytes)

-- the bytes of lines, each with its byte 10
abbrev bytes_of : List Stretch → List ℕ
bytes_of [] = []
bytes_of (line ∷ lines) = (line.bytes ++ 10 ∷ []) ++ bytes_of lines

stretch_texts : (lines : List Stretch) → text_of (map texts (map line_of lines)) ≡ bytes_of lines
stretch_texts [] = refl
stretch_texts (line ∷ lines) =
    ap (λ (t : List ℕ). t ++ text_of (map texts (map line_of lines))) (items_text line.end line.bytes)
    ∙ ap (λ (t : List ℕ). (line.bytes ++ 10 ∷ []) ++ t) (stretch_texts lines)

-- each of these lines ends with byte 10
abbrev AllEnd : List Stretch → Type 0
AllEnd [] = Unit {0}
AllEnd (line ∷ lines) = (0 < line.end) × AllEnd lines

longer_bytes : (b : ℕ) (bytes : List ℕ) (lines : List Stretch) → (AllEnd lines → bytes_of lines ≡ bytes) → AllEnd (longer b lines)
    → bytes_of (longer b lines) ≡ b ∷ bytes
longer_bytes b bytes [] h ends = absurd (nothing (ends.0))
  where
    nothing : 0 < 0 → ⊥
    nothing e = omega (arith, e)
longer_bytes b bytes (line ∷ lines) h ends = ap (λ (t : List ℕ). b ∷ t) (h ends)

bytes_case : (b : ℕ) (bytes : List ℕ) (t : Bool) → is_newline b ≡ t → (AllEnd (stretches bytes) → bytes_of (stretches bytes) ≡ bytes)
    → AllEnd (cond t (record { bytes = []; end = length (b ∷ bytes) } ∷ stretches bytes) (longer b (stretches bytes)))
    → bytes_of (cond t (record { bytes = []; end = length (b ∷ bytes) } ∷ stretches bytes) (longer b (stretches bytes))) ≡ b ∷ bytes
bytes_case b bytes true is h ends = ap (λ (t : List ℕ). 10 ∷ t) (h ends.1) ∙ ap (λ (c : ℕ). c ∷ bytes) (sym (eqb-true b 10 is))
bytes_case b bytes false is h ends = longer_bytes b bytes (stretches bytes) h ends

stretches_bytes : (bytes : List ℕ) → AllEnd (stretches bytes) → bytes_of (stretches bytes) ≡ bytes
stretches_bytes [] ends = refl
stretches_bytes (b ∷ bytes) ends = bytes_case b bytes (is_newline b) refl (stretches_bytes bytes) ends

-- each of these lines ends with byte 10
abbrev pub AllEnded : List Line → Type 0
AllEnded [] = Unit {0}
AllEnded (line ∷ lines) = Ended line × AllEnded lines

ends_of : (lines : List Stretch) → AllEnded (map line_of lines) → AllEnd lines
ends_of [] ends = tt
ends_of (line ∷ lines) ends = (ends.0, ends_of lines ends.1)

-- a text is the bytes of its lines
pub split_text : (bytes : List ℕ) → AllEnded (lines_of bytes) → bytes ≡ text_of (map texts (lines_of bytes))
split_text bytes ends =
    sym (stretch_texts (stretches bytes) ∙ stretches_bytes bytes (ends_of (stretches bytes) ends))
