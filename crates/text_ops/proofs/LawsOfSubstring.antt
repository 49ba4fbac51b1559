-- The laws of substrings and of full stops.
use Rattle.std.proofs.Common.{◌≡◌, ◌∙◌, ℕ, ◌-◌, ◌≤◌, List, [], ◌∷◌, ◌++◌, length, take, drop, refl, ap, arith, sym, Bool, true, false, ℤ, pos, negsuc, Some, append_assoc}
use Rattle.std.specs.Prelude.{if◌then◌else◌, ◌||◌, nat_eq, nat_lt, int_le, unsigned_abs, codes}
use Rattle.std.proofs.lemmas.List.{length-take, length-drop, take-append-drop, reverse-append}
use Rattle.text_ops.specs.AddPeriod.{is_stop, last_other, with_period}
use Rattle.text_ops.specs.Laws.{IsPartOf}
use Rattle.text_ops.specs.Substring.{part, substring_of}

-- ---- substrings

middle : (text : List ℕ) (before count : ℕ) → text ≡ take before text ++ (take count (drop before text) ++ drop count (drop before text))
middle text before count = sym (ap (λ xs. take before text ++ xs) (take-append-drop count (drop before text)) ∙ take-append-drop before text)

front : (text : List ℕ) (end before : ℕ) → text ≡ take before (take end text) ++ (drop before (take end text) ++ drop end text)
front text end before =
    sym (sym (append_assoc (take before (take end text)) (drop before (take end text)) (drop end text)) ∙ (ap (λ xs. xs ++ drop end text) (take-append-drop before (take end text)) ∙ take-append-drop end text))

part_is_part : (text : List ℕ) (start : ℤ) (count : ℕ) → IsPartOf text (part text start count)
part_is_part text (pos place) count = (take (place - 1) text, drop count (drop (place - 1) text), middle text (place - 1) count)
part_is_part text (negsuc behind) count =
    (take (length (take (length text - behind) text) - count) (take (length text - behind) text), drop (length text - behind) text, front text (length text - behind) (length (take (length text - behind) text) - count))

none_is_part : (text : List ℕ) → IsPartOf text []
none_is_part text = ([], text, refl)

pub is_part : (text : List ℕ) (start count : ℤ) → IsPartOf text (substring_of text start count)
is_part text start count =
    elim (int_le count (pos 0) || (nat_eq (unsigned_abs start) 0 || nat_lt (length text) (unsigned_abs start))) as (λ v. IsPartOf text (if v then [] else part text start (unsigned_abs count))) [
      | true ↦ none_is_part text
      | false ↦ part_is_part text start (unsigned_abs count)
    ]

part_is_short : (text : List ℕ) (start : ℤ) (count : ℕ) → length (part text start count) ≤ count
part_is_short text (pos place) count = simp length-take (omega arith)
part_is_short text (negsuc behind) count = simp length-drop (omega arith)

pub is_short : (text : List ℕ) (start : ℤ) (count : ℕ) → length (substring_of text start (pos count)) ≤ count
is_short text start count =
    elim (int_le (pos count) (pos 0) || (nat_eq (unsigned_abs start) 0 || nat_lt (length text) (unsigned_abs start))) as (λ v. length (if v then [] else part text start count) ≤ count) [
      | true ↦ omega arith
      | false ↦ part_is_short text start count
    ]

pub is_none : (text : List ℕ) (start : ℤ) (count : ℕ) → substring_of text start (negsuc count) ≡ []
is_none text start count = refl

-- ---- full stops

pub period_twice : (text : List ℕ) → with_period (with_period text) ≡ with_period text
period_twice [] = refl
period_twice (b ∷ bs) =
    let M : Bool → Type 0 = λ v. is_stop (last_other (b ∷ bs)) ≡ v → with_period (with_period (b ∷ bs)) ≡ with_period (b ∷ bs) in
    (elim (is_stop (last_other (b ∷ bs))) as M [
      | true ↦ λ e. rw (e, e) refl
      | false ↦ λ e.
          let last : last_other ((b ∷ bs) ++ codes ".") ≡ Some 46 = rw (reverse-append (b ∷ bs) (codes ".")) refl in
          rw (e, last) refl
    ]) refl
