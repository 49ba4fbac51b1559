-- The end of a group whose text stands behind another.
use Rattle.std.proofs.Common.{◌≡◌, ℕ, zero, ◌+◌, ◌-◌, ◌<◌, ◌≤◌, suc, true, false, nat_lt, List, [], ◌∷◌, ◌++◌, length, take, drop, slice_set, sym, ap, ◌∙◌, arith, append_assoc}
use Rattle.std.proofs.Math.Seq.{drop-length, take-append-add}
use Rattle.std.proofs.lemmas.List.{drop-drop, length-append, set_split, take-append-drop}
use Rattle.name_split.specs.Formatted.{but_last_byte, characters, ends_with}
use Rattle.name_format.specs.Steps.{tied_at}

seam : (begun from : ℕ) (text : List ℕ) → begun ≤ from → take (from - begun) (drop begun text) ++ drop from text ≡ drop begun text
seam begun from text order =
    ap (λ xs. take (from - begun) (drop begun text) ++ xs) (ap (λ n. drop n text) {x = from} {y = begun + (from - begun)} (omega arith)
    ∙ sym (drop-drop (from - begun) begun text))
    ∙ take-append-drop (from - begun) (drop begun text)

last_there : (group : List ℕ) → ends_with 126 group ≡ true → 0 < length group
last_there [] e = absurd (cc)
last_there (b ∷ group) e = omega arith

behind_some : (begun : ℕ) (text : List ℕ) → 0 < length (drop begun text) → 0 < length text
behind_some zero text some = some
behind_some (suc begun) [] some = some
behind_some (suc begun) (b ∷ text) some = omega arith

but_last_append : (before group : List ℕ) → 0 < length group → but_last_byte (before ++ group) ≡ before ++ but_last_byte group
but_last_append before group some =
    ap (λ n. take n (before ++ group)) {x = length (before ++ group) - 1} {y = length before + (length group - 1)} (simp length-append (omega arith))
    ∙ take-append-add before group (length group - 1)

but_last_at : (begun : ℕ) (text : List ℕ) → ends_with 126 (drop begun text) ≡ true
    → but_last_byte text ≡ take begun text ++ but_last_byte (drop begun text)
but_last_at begun text e =
    ap but_last_byte (sym (take-append-drop begun text))
    ∙ but_last_append (take begun text) (drop begun text) (last_there (drop begun text) e)

pub untied : (begun from : ℕ) (text : List ℕ) → begun ≤ from → ends_with 126 (drop begun text) ≡ false → text ≡ tied_at begun from text
untied begun from text order open_end =
    rw (seam begun from text order, open_end) (sym (take-append-drop begun text))

pub one_of_two : (begun from : ℕ) (text : List ℕ) → begun ≤ from → ends_with 126 (drop begun text) ≡ true
    → ends_with 126 (but_last_byte (drop begun text)) ≡ true
    → take (length text - 1) text ≡ tied_at begun from text
one_of_two begun from text order ends twice =
    rw (seam begun from text order, ends, twice) (but_last_at begun text ends)

pub too_short : (begun from : ℕ) (text : List ℕ) → begun ≤ from → ends_with 126 (drop begun text) ≡ true
    → ends_with 126 (but_last_byte (drop begun text)) ≡ false
    → nat_lt (characters (but_last_byte (drop from text))) 3 ≡ true
    → text ≡ tied_at begun from text
too_short begun from text order ends twice few =
    rw (seam begun from text order, ends, twice, few) (sym (take-append-drop begun text))

last_set : (text : List ℕ) → 0 < length text → slice_set text (length text - 1) 32 ≡ but_last_byte text ++ 32 ∷ []
last_set text some =
    set_split text (length text - 1) 32 (omega arith)
    ∙ ap (λ n. take (length text - 1) text ++ 32 ∷ drop n text) {x = suc (length text - 1)} {y = length text} (omega arith)
    ∙ ap (λ xs. take (length text - 1) text ++ 32 ∷ xs) (drop-length text)

pub spaced : (begun from : ℕ) (text : List ℕ) → begun ≤ from → ends_with 126 (drop begun text) ≡ true
    → ends_with 126 (but_last_byte (drop begun text)) ≡ false
    → nat_lt (characters (but_last_byte (drop from text))) 3 ≡ false
    → slice_set text (length text - 1) 32 ≡ tied_at begun from text
spaced begun from text order ends twice many =
    rw (seam begun from text order, ends, twice, many)
    (last_set text (behind_some begun text (last_there (drop begun text) ends))
    ∙ ap (λ xs. xs ++ 32 ∷ []) (but_last_at begun text ends)
    ∙ append_assoc (take begun text) (but_last_byte (drop begun text)) (32 ∷ []))
