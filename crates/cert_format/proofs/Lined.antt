-- The first line of a text, and the first item of a line.
use Rattle.std.proofs.Common.{◌≡◌, ℕ, suc, ◌+◌, ◌<◌, Bool, true, false, cond, List, map, [], ◌∷◌, length, take, drop, refl, sym, ap, ◌∙◌, arith}
use Rattle.bv_base.specs.Runs.{length_before}
use Rattle.cert_format.specs.Lines.{Item, Line, Stretch, after_space, begun, is_newline, is_space, items_of, line_of, lines_of, longer, stretches, with_item}

-- the line before so many bytes, and the lines after it
abbrev split_at : ℕ → List ℕ → List Stretch
split_at n bytes = record { bytes = take n bytes; end = length (drop n bytes) } ∷ stretches (drop 1 (drop n bytes))

line_case : (b : ℕ) (bytes : List ℕ) (t : Bool) → longer b (stretches bytes) ≡ split_at (suc (length_before is_newline bytes)) (b ∷ bytes)
    → cond t (record { bytes = []; end = length (b ∷ bytes) } ∷ stretches bytes) (longer b (stretches bytes))
    ≡ split_at (cond t 0 (suc (length_before is_newline bytes))) (b ∷ bytes)
line_case b bytes true h = refl
line_case b bytes false h = h

-- a text that has a byte is its first line and the lines after it
pub first_line : (b : ℕ) (bytes : List ℕ)
    → stretches (b ∷ bytes) ≡ split_at (length_before is_newline (b ∷ bytes)) (b ∷ bytes)
first_line b [] = line_case b [] (is_newline b) refl
first_line b (c ∷ bytes) = line_case b (c ∷ bytes) (is_newline b) (ap (longer b) (first_line c bytes))

-- the item before so many bytes, and the items after it
abbrev pub item_at : ℕ → ℕ → List ℕ → List Item
item_at n end bytes = record { text = take n bytes; left = length bytes + end } ∷ after_space end (drop n bytes)

item_case : (end b : ℕ) (bytes : List ℕ) (t : Bool)
    → begun b (items_of end bytes) ≡ item_at (suc (length_before is_space bytes)) end (b ∷ bytes)
    → cond t (record { text = []; left = length (b ∷ bytes) + end } ∷ items_of end bytes) (begun b (items_of end bytes))
    ≡ item_at (cond t 0 (suc (length_before is_space bytes))) end (b ∷ bytes)
item_case end b bytes true h = refl
item_case end b bytes false h = h

-- a line is its first item and the items after it
pub first_item : (end : ℕ) (bytes : List ℕ) → items_of end bytes ≡ item_at (length_before is_space bytes) end bytes
first_item end [] =
    let same : end ≡ 0 + end = omega arith in
    ap (λ (left : ℕ). record { text = []; left = left } ∷ []) same
first_item end (b ∷ bytes) =
    let same : suc (length bytes + end) ≡ length (b ∷ bytes) + end = omega arith in
    item_case end b bytes (is_space b)
    (ap (begun b) (first_item end bytes)
    ∙ ap (λ (left : ℕ). record { text = b ∷ take (length_before is_space bytes) bytes; left = left } ∷ after_space end (drop (length_before is_space bytes) bytes)) same)

-- a line by its first item and those after it
pub item_taken : (line : Line) (end n : ℕ) (rest front back : List ℕ) (left : List Item)
    → record { items = items_of end rest; end = end } ≡ line → n ≡ length_before is_space rest → front ≡ take n rest → back ≡ drop n rest
    → left ≡ after_space end back
    → line ≡ with_item (record { text = front; left = length rest + end }) (record { items = left; end = end })
item_taken line end n rest front back left is count before behind more =
    let line_with : List Item → Line = λ items. record { items = items; end = end } in
    sym is ∙ ap line_with (first_item end rest)
    ∙ ap (λ (m : ℕ). line_with (item_at m end rest)) (sym count)
    ∙ ap (λ (text : List ℕ). line_with (record { text = text; left = length rest + end } ∷ after_space end (drop n rest))) (sym before)
    ∙ ap (λ (bytes : List ℕ). line_with (record { text = front; left = length rest + end } ∷ after_space end bytes)) (sym behind)
    ∙ ap (λ (items : List Item). line_with (record { text = front; left = length rest + end } ∷ items)) (sym more)

-- a text gives its first line
pub line_taken : (n : ℕ) (bytes front back : List ℕ) → 0 < length bytes → n ≡ length_before is_newline bytes → front ≡ take n bytes
    → back ≡ drop n bytes
    → lines_of bytes ≡ record { items = items_of (length back) front; end = length back } ∷ lines_of (drop 1 back)
line_taken n [] front back some count before behind = absurd (omega arith)
line_taken n (b ∷ bytes) front back some count before behind =
    ap (map line_of) (first_line b bytes)
    ∙ ap (λ (m : ℕ). map line_of (split_at m (b ∷ bytes))) (sym count)
    ∙ ap (λ (text : List ℕ). line_of (record { bytes = text; end = length (drop n (b ∷ bytes)) }) ∷ lines_of (drop 1 (drop n (b ∷ bytes)))) (sym before)
    ∙ ap (λ (text : List ℕ). line_of (record { bytes = front; end = length text }) ∷ lines_of (drop 1 text)) (sym behind)
