-- The names that are left when one is taken.
use Rattle.std.proofs.Common.{◌≡◌, ℕ, zero, suc, ◌+◌, ◌-◌, ◌<◌, Bool, true, false, List, [], ◌∷◌, length, take, drop, refl, sym, ap, ◌∙◌, arith}
use Rattle.std.proofs.lemmas.List.{length-drop, drop-drop}
use Rattle.bv_base.specs.Bytes.{is_white}
use Rattle.name_split.specs.Left.{names_from}
use Rattle.name_split.specs.Names.{Names, between, names_of, separators, trimmed_all}
use Rattle.name_split.specs.declared.spans.Span.{Span}
use Rattle.name_split.specs.Spans.{slice, front, kept, trimmed}
use Rattle.name_split.proofs.Cutting.{slice_trimmed}

pub take_all : (count : ℕ) (bytes : List ℕ) → count ≡ length bytes → take count bytes ≡ bytes
take_all zero [] e = refl
take_all zero (b ∷ bytes) e = absurd (omega arith)
take_all (suc count) [] e = absurd (omega arith)
take_all (suc count) (b ∷ bytes) e = ap (λ xs. b ∷ xs) (take_all count bytes (omega arith))

-- the trimmed slice of a stretch
pub trimmed_is : (text stretch name : List ℕ) (span : Span) → stretch ≡ slice text span
    → name ≡ take (kept is_white (drop (front is_white stretch) stretch)) (drop (front is_white stretch) stretch)
    → name ≡ slice text (trimmed is_white text span)
trimmed_is text stretch name span e is =
    is
    ∙ ap (λ xs. take (kept is_white (drop (front is_white xs) xs)) (drop (front is_white xs) xs)) e
    ∙ slice_trimmed is_white text span

-- a stretch up to a separator
pub stretch_before : (text rest stretch : List ℕ) (start at : ℕ) → rest ≡ drop start text → stretch ≡ take at rest
    → stretch ≡ slice text (record { start = start; end = start + at })
stretch_before text rest stretch start at e f =
    f ∙ ap (take at) e ∙ ap (λ n. take n (drop start text)) {x = at} {y = start + at - start} (omega arith)

-- the stretch up to the end
pub stretch_last : (text rest : List ℕ) (start : ℕ) → rest ≡ drop start text
    → rest ≡ slice text (record { start = start; end = length text })
stretch_last text rest start e =
    e ∙ sym (take_all (length text - start) (drop start text) (sym (length-drop start text)))

-- a name before others
pub name_taken : (text rest : List ℕ) (ended : Bool) (start at next : ℕ) (value : Names)
    → record { text = text; left = names_from ended start text } ≡ value → ended ≡ false
    → rest ≡ drop start text
    → separators start 0 false rest ≡ (start + at) ∷ separators (start + (at + 3)) 0 false (drop (at + 3) rest)
    → next ≡ start + at + 3
    → value.left ≡ trimmed is_white text (record { start = start; end = start + at }) ∷ names_from ended next text
name_taken text rest true start at next value is going e found n = cc
name_taken text rest false start at next value is going e found n =
    let taken : Span = trimmed is_white text (record { start = start; end = start + at }) in
    let left : List ℕ → ℕ → List Span = λ s k. trimmed_all text (between k s (length text)) in
    sym (ap (λ (v : Names). v.left) is)
    ∙ ap (λ xs. left (separators start 0 false xs) start) (sym e)
    ∙ ap (λ s. left s start) found
    ∙ ap (λ xs. taken ∷ left (separators (start + (at + 3)) 0 false xs) (start + at + 3)) (ap (drop (at + 3)) e ∙ drop-drop (at + 3) start text)
    ∙ ap (λ k. taken ∷ left (separators k 0 false (drop k text)) (start + at + 3)) {x = start + (at + 3)} {y = start + at + 3} (omega arith)
    ∙ ap (λ k. taken ∷ names_from false k text) (sym n)

-- the last name
pub last_taken : (text rest : List ℕ) (ended : Bool) (start : ℕ) (value : Names)
    → record { text = text; left = names_from ended start text } ≡ value → ended ≡ false
    → rest ≡ drop start text → separators start 0 false rest ≡ []
    → value.left ≡ trimmed is_white text (record { start = start; end = length text }) ∷ []
last_taken text rest true start value is going e found = cc
last_taken text rest false start value is going e found =
    sym (ap (λ (v : Names). v.left) is)
    ∙ ap (λ xs. trimmed_all text (between start (separators start 0 false xs) (length text))) (sym e)
    ∙ ap (λ s. trimmed_all text (between start s (length text))) found

trimmed_count : (text : List ℕ) (spans : List Span) → length (trimmed_all text spans) ≡ length spans
trimmed_count text [] = refl
trimmed_count text (span ∷ spans) = ap suc (trimmed_count text spans)

between_count : (from : ℕ) (starts : List ℕ) (end : ℕ) → length (between from starts end) ≡ suc (length starts)
between_count from [] end = refl
between_count from (at ∷ starts) end = ap suc (between_count (at + 3) starts end)

-- a text that isn't empty has one more name than separators
pub names_counted : (text : List ℕ) → 0 < length text → length (names_of text) ≡ 1 + length (separators 0 0 false text)
names_counted [] some = absurd (omega arith)
names_counted (b ∷ bytes) some =
    let text : List ℕ = b ∷ bytes in
    let starts : List ℕ = separators 0 0 false text in
    let all : length (trimmed_all text (between 0 starts (length text))) ≡ length (between 0 starts (length text)) =
    trimmed_count text (between 0 starts (length text)) in
    let stretches : length (between 0 starts (length text)) ≡ suc (length starts) = between_count 0 starts (length text) in
    omega arith
