-- The bytes of lines one after the other.
use Rattle.std.proofs.Common.{◌≡◌, ℕ, suc, ◌+◌, ◌<◌, List, [], ◌∷◌, ◌++◌, length, drop, get_or, drop-cons, add-one, Result, Ok, Err, OnOk, refl, sym, ap, ◌∙◌, append_assoc}
use Rattle.cert_format.specs.UnitSpelling.{each_lines}
use Rattle.std.proofs.lemmas.List.{append-nil}
use Rattle.cert_format.specs.Spelling.{line_text, text_of}

-- the bytes of lines that stand behind others
pub text_append : (a b : List (List (List ℕ))) → text_of (a ++ b) ≡ text_of a ++ text_of b
text_append [] b = refl
text_append (line ∷ a) b = ap (λ t. line_text line ++ t) (text_append a b) ∙ sym (append_assoc (line_text line) (text_of a) (text_of b))

-- lines behind others, which stand behind a text
pub joined : (a b : List (List (List ℕ))) (old mid new : List ℕ) → mid ≡ old ++ text_of a → new ≡ mid ++ text_of b
    → new ≡ old ++ text_of (a ++ b)
joined a b old mid new first second =
    second ∙ ap (λ t. t ++ text_of b) first ∙ append_assoc old (text_of a) (text_of b) ∙ ap (λ t. old ++ t) (sym (text_append a b))

-- the same where the last call may want memory
pub puts : {A E : Type 0} (result : Result A E) (a b : List (List (List ℕ))) (old mid new : List ℕ) → mid ≡ old ++ text_of a
    → OnOk result (new ≡ mid ++ text_of b) → OnOk result (new ≡ old ++ text_of (a ++ b))
puts (Ok _) a b old mid new first second = joined a b old mid new first second
puts (Err _) a b old mid new first second = tt

-- a line and lines behind it, which stand behind a text
pub puts_line : {A E : Type 0} (result : Result A E) (line : List (List ℕ)) (b : List (List (List ℕ))) (old mid new : List ℕ)
    → mid ≡ old ++ line_text line → OnOk result (new ≡ mid ++ text_of b) → OnOk result (new ≡ old ++ text_of (line ∷ b))
puts_line (Ok _) line b old mid new first second =
    second ∙ ap (λ t. t ++ text_of b) first ∙ append_assoc old (line_text line) (text_of b)
puts_line (Err _) line b old mid new first second = tt

-- one line, which stands behind a text
pub puts_last : {A E : Type 0} (result : Result A E) (line : List (List ℕ)) (old new : List ℕ)
    → OnOk result (new ≡ old ++ line_text line) → OnOk result (new ≡ old ++ text_of (line ∷ []))
puts_last (Ok _) line old new is = is ∙ ap (λ t. old ++ t) (sym (append-nil (line_text line)))
puts_last (Err _) line old new is = tt

-- the lines of one more item of a list
pub each_step : {A : Type 0} (lines : A → List (List (List ℕ))) (items : List A) (i : ℕ) (item : A) (old new : List ℕ) → i < length items
    → item ≡ get_or items i item → new ≡ old ++ text_of (lines item)
    → new ++ text_of (each_lines lines (drop (i + 1) items)) ≡ old ++ text_of (each_lines lines (drop i items))
each_step {A} lines items i item old new within is put =
    let rest : List A = drop (i + 1) items in
    let first : drop i items ≡ item ∷ rest =
    drop-cons items i item within ∙ ap (λ x. x ∷ drop (suc i) items) (sym is) ∙ ap (λ n. item ∷ drop n items) (sym (add-one i)) in
    ap (λ t. t ++ text_of (each_lines lines rest)) put
    ∙ append_assoc old (text_of (lines item)) (text_of (each_lines lines rest))
    ∙ ap (λ t. old ++ t) (sym (text_append (lines item) (each_lines lines rest)))
    ∙ ap (λ l. old ++ text_of (each_lines lines l)) (sym first)
