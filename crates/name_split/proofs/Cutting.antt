-- Slices of slices.
use Rattle.std.proofs.Common.{◌≡◌, ℕ, suc, ◌+◌, ◌-◌, ◌≤◌, Bool, true, false, cond, not, nat_eq, min, List, [], ◌∷◌, length, take, drop, refl, ap, ◌∙◌, arith, take-take}
use Rattle.std.proofs.lemmas.List.{length-take, length-drop, drop-take, drop-drop}
use Rattle.bv_base.specs.Bytes.{is_white}
use Rattle.bv_base.specs.Runs.{is_black, length_before}
use Rattle.name_split.specs.declared.spans.Span.{Span}
use Rattle.name_split.specs.Spans.{slice, front, kept, trimmed}

-- the white space that stands first, by the bytes that are none
pub white_front : (bytes : List ℕ) → length_before is_black bytes ≡ front is_white bytes
white_front [] = refl
white_front (b ∷ bytes) =
    elim (is_white b) as (λ v. cond (not v) 0 (suc (length_before is_black bytes)) ≡ cond v (suc (front is_white bytes)) 0)
    [ true ↦ ap suc (white_front bytes) | false ↦ refl ]

pub front_within : {X : Type 0} (test : X → Bool) (bytes : List X) → front test bytes ≤ length bytes
front_within test [] = omega arith
front_within test (b ∷ bytes) =
    let h : front test bytes ≤ length bytes = front_within test bytes in
    elim (test b) as (λ v. cond v (suc (front test bytes)) 0 ≤ suc (length bytes)) [ true ↦ omega arith | false ↦ omega arith ]

pub kept_within : {X : Type 0} (test : X → Bool) (bytes : List X) → kept test bytes ≤ length bytes
kept_within test [] = omega arith
kept_within test (b ∷ bytes) =
    let h : kept test bytes ≤ length bytes = kept_within test bytes in
    elim (nat_eq (kept test bytes) 0) as (λ v. cond v (cond (test b) 0 1) (suc (kept test bytes)) ≤ suc (length bytes)) [
      | true ↦ elim (test b) as (λ v. cond v 0 1 ≤ suc (length bytes)) [ true ↦ omega arith | false ↦ omega arith ]
      | false ↦ omega arith
    ]

-- a part of a slice is a slice
pub part : (few first count start : ℕ) (source : List ℕ) → first + few ≤ count
    → take few (drop first (take count (drop start source))) ≡ take few (drop (start + first) source)
part few first count start source h =
    let rest : count ≡ first + (count - first) = omega arith in
    ap (λ n. take few (drop first (take n (drop start source)))) rest
    ∙ ap (take few) (drop-take first (count - first) (drop start source))
    ∙ take-take few (count - first) (drop first (drop start source)) (omega arith)
    ∙ ap (take few) (drop-drop first start source)

-- the slice of a trimmed stretch
pub slice_trimmed : (test : ℕ → Bool) (text : List ℕ) (span : Span)
    → take (kept test (drop (front test (slice text span)) (slice text span))) (drop (front test (slice text span)) (slice text span))
    ≡ slice text (trimmed test text span)
slice_trimmed test text span =
    let whole : List ℕ = slice text span in
    let first : ℕ = front test whole in
    let few : ℕ = kept test (drop first whole) in
    let within : first ≤ length whole = front_within test whole in
    let left : length (drop first whole) ≡ length whole - first = length-drop first whole in
    let most : few ≤ length (drop first whole) = kept_within test (drop first whole) in
    let long : length whole ≡ min (span.end - span.start) (length (drop span.start text)) =
    length-take (span.end - span.start) (drop span.start text) in
    part few first (span.end - span.start) span.start text (omega arith)
    ∙ ap (λ n. take n (drop (span.start + first) text)) {x = few} {y = span.start + first + few - (span.start + first)} (omega arith)
