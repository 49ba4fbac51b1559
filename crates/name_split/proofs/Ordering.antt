-- Names stand in order.
use Rattle.std.proofs.Common.{◌≡◌, ℕ, zero, suc, ◌+◌, ◌-◌, ◌≤◌, Bool, true, false, min, List, [], ◌∷◌, length, drop, refl, sym, subst, arith}
use Rattle.std.proofs.lemmas.List.{length-drop, length-take}
use Rattle.bv_base.specs.Bytes.{is_white}
use Rattle.bv_base.specs.Levels.{next_level}
use Rattle.name_split.specs.declared.spans.Span.{Span}
use Rattle.name_split.specs.Names.{begins_separator, between, names_of, separators, trimmed_all}
use Rattle.name_split.specs.Order.{InOrder, IsWithin}
use Rattle.name_split.specs.Spans.{front, kept, slice, trimmed}
use Rattle.name_split.proofs.Cutting.{front_within, kept_within}
use Rattle.name_split.proofs.Separating.{separator_here, separator_not_here}

-- separators stand in order and apart, from a byte of the text up to another
abbrev Apart : ℕ → List ℕ → ℕ → Type 0
Apart from [] end = from ≤ end
Apart from (at ∷ more) end = (from ≤ at) × Apart (at + 3) more end

apart_sooner : (from sooner : ℕ) (starts : List ℕ) (end : ℕ) → sooner ≤ from → Apart from starts end → Apart sooner starts end
apart_sooner from sooner [] end h k = omega arith
apart_sooner from sooner (at ∷ starts) end h (k, more) = (omega arith, more)

apart_case : (n at level : ℕ) (after_white begins : Bool) (b : ℕ) (bytes : List ℕ)
    → begins_separator level after_white (b ∷ bytes) ≡ begins
    → length bytes ≤ n
    → ((at level : ℕ) (after_white : Bool) (bytes : List ℕ) → length bytes ≤ n
    → Apart at (separators at level after_white bytes) (at + length bytes))
    → Apart at (separators at level after_white (b ∷ bytes)) (at + suc (length bytes))
apart_case n at level after_white true b bytes e h more =
    let here = separator_here at level after_white (b ∷ bytes) e in
    let long : 3 ≤ suc (length bytes) = here.0 in
    let left : length (drop 3 (b ∷ bytes)) ≡ suc (length bytes) - 3 = length-drop 3 (b ∷ bytes) in
    let same : at + 3 + length (drop 3 (b ∷ bytes)) ≡ at + suc (length bytes) = omega arith in
    subst (λ starts. Apart at starts (at + suc (length bytes))) (sym here.1) (
      omega arith,
      subst (λ end. Apart (at + 3) (separators (at + 3) 0 false (drop 3 (b ∷ bytes))) end) same
          (more (at + 3) 0 false (drop 3 (b ∷ bytes)) (omega arith)),
    )
apart_case n at level after_white false b bytes e h more =
    let same : at + 1 + length bytes ≡ at + suc (length bytes) = omega arith in
    subst (λ starts. Apart at starts (at + suc (length bytes))) (sym (separator_not_here at level after_white b bytes e))
    (apart_sooner (at + 1) at _ _ (omega arith)
    (subst (λ end. Apart (at + 1) (separators (at + 1) (next_level level b) (is_white b) bytes) end) same
    (more (at + 1) (next_level level b) (is_white b) bytes h)))

separators_apart : (n at level : ℕ) (after_white : Bool) (bytes : List ℕ) → length bytes ≤ n
    → Apart at (separators at level after_white bytes) (at + length bytes)
separators_apart n at level after_white [] h = omega arith
separators_apart zero at level after_white (b ∷ bytes) h = absurd (omega arith)
separators_apart (suc n) at level after_white (b ∷ bytes) h =
    apart_case n at level after_white (begins_separator level after_white (b ∷ bytes)) b bytes refl (omega arith)
    (separators_apart n)

-- a trimmed stretch stands within the stretch
trimmed_within : (test : ℕ → Bool) (text : List ℕ) (span : Span) → span.start ≤ span.end
    → IsWithin span.start span.end (trimmed test text span)
trimmed_within test text span h =
    let whole : List ℕ = slice text span in
    let first : ℕ = front test whole in
    let within : first ≤ length whole = front_within test whole in
    let left : length (drop first whole) ≡ length whole - first = length-drop first whole in
    let most : kept test (drop first whole) ≤ length (drop first whole) = kept_within test (drop first whole) in
    let long : length whole ≡ min (span.end - span.start) (length (drop span.start text)) =
    length-take (span.end - span.start) (drop span.start text) in
    record { after = omega arith; forward = omega arith; before = omega arith }

order_sooner : (from sooner : ℕ) (spans : List Span) (end : ℕ) → sooner ≤ from → InOrder from spans end → InOrder sooner spans end
order_sooner from sooner [] end h k = tt
order_sooner from sooner (span ∷ spans) end h (k, more) =
    (record { after = (let a : from ≤ span.start = k.after in omega arith); forward = k.forward; before = k.before }, more)

between_in_order : (text : List ℕ) (from : ℕ) (starts : List ℕ) (end : ℕ) → Apart from starts end
    → InOrder from (trimmed_all text (between from starts end)) end
between_in_order text from [] end h = (trimmed_within is_white text (record { start = from; end = end }) h, tt)
between_in_order text from (at ∷ starts) end (h, more) =
    let span : Span = trimmed is_white text (record { start = from; end = at }) in
    let here : IsWithin from at span = trimmed_within is_white text (record { start = from; end = at }) h in
    let close : span.end ≤ at = here.before in
    let far : at + 3 ≤ end = apart_bound (at + 3) starts end more in (
      record { after = here.after; forward = here.forward; before = omega arith },
      order_sooner (at + 3) span.end _ end (omega arith) (between_in_order text (at + 3) starts end more),
    )
  where
    apart_bound : (from : ℕ) (starts : List ℕ) (end : ℕ) → Apart from starts end → from ≤ end
    apart_bound from [] end h = h
    apart_bound from (at ∷ starts) end (h, more) =
        let far : at + 3 ≤ end = apart_bound (at + 3) starts end more in omega arith

pub names_ordered : (text : List ℕ) → InOrder 0 (names_of text) (length text)
names_ordered [] = tt
names_ordered (b ∷ bytes) =
    let text : List ℕ = b ∷ bytes in
    between_in_order text 0 (separators 0 0 false text) (length text)
    (subst (λ end. Apart 0 (separators 0 0 false text) end) (omega arith)
    (separators_apart (length text) 0 0 false text (omega arith)))
