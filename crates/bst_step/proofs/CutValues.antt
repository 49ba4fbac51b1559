-- Parts of what stands in a pool.
use Rattle.std.proofs.Common.{◌≡◌, ℕ, zero, suc, ◌+◌, ◌-◌, ◌≤◌, inl, inr, refl, sym, ap, ◌∙◌, List, [], ◌∷◌, Some, Result, Ok, drop, length, slice_get, take, min, arith}
use Rattle.std.proofs.lemmas.Bool.{cases_lt}
use Rattle.std.proofs.lemmas.List.{drop-drop, drop-take, drop_all, length-take}
use Rattle.bv_base.proofs.Parts.{taken}
use Rattle.text_ops.specs.Substring.{last_bytes}
use Rattle.bst_meaning.specs.declared.fault.Fault.{Fault}
use Rattle.bst_meaning.specs.declared.value.Value.{Value}
use Rattle.bst_meaning.specs.declared.value.Value.TheVariants.{Str}
use Rattle.bst_meaning.specs.Effect.{Effect, left, pushed}
use Rattle.bst_step.specs.Held.{part_from}
use Rattle.bst_step.specs.Values.{cut}

-- of the first so many those from a place on
shorter : {A : Type 0} (from size : ℕ) (ys : List A) → from ≤ size → take (size - from) (drop from ys) ≡ drop from (take size ys)
shorter from size ys h =
    let e : from + (size - from) ≡ size = omega (arith, h) in
    sym (drop-take from (size - from) ys) ∙ ap (λ n. drop from (take n ys)) e

none : {A : Type 0} (count : ℕ) (xs : List A) → xs ≡ [] → take count xs ≡ xs
none zero xs e = sym e
none (suc count) [] e = refl
none (suc count) (x ∷ xs) e = absurd (cc)

-- a part of a made string
pub part_made : (pool : List ℕ) (start size from count : ℕ)
    → take (min count (size - min from size)) (drop (start + min from size) pool) ≡ take count (drop from (take size (drop start pool)))
part_made pool start size from count =
    elim (cases_lt from size) [
      | inl h ↦
          let e : min from size ≡ from = omega (arith, h) in
          ap (λ k. take (min count (size - k)) (drop (start + k) pool)) e
          ∙ ap (λ zs. take (min count (size - from)) zs) (sym (drop-drop from start pool))
          ∙ taken count (size - from) (drop from (drop start pool))
          ∙ ap (λ zs. take count zs) (shorter from size (drop start pool) (omega (arith, h)))
      | inr h ↦
          let e : min from size ≡ size = omega (arith, h) in
          let z : min count (size - min from size) ≡ 0 = omega (arith, h) in
          let past : drop from (take size (drop start pool)) ≡ [] =
          drop_all from (take size (drop start pool)) (omega (arith, h, length-take size (drop start pool))) in
          ap (λ n. take n (drop (start + min from size) pool)) z ∙ sym (none count (drop from (take size (drop start pool))) past ∙ past)
    ]

-- up to an end, the last so many
pub last_part : (text : List ℕ) (end count : ℕ) → end ≤ length text
    → take (end - (end - count)) (drop (end - count) text) ≡ last_bytes count (take end text)
last_part text end count within =
    let all : end ≡ length (take end text) = omega (arith, within, length-take end text) in
    shorter (end - count) end text (omega arith) ∙ ap (λ (n : ℕ). drop (n - count) (take end text)) all

-- a part of the third value from the top
pub third_cut : (stack : List Value) (from count : ℕ) (text bytes : List ℕ) → slice_get stack 2 ≡ Some (Str text) → take count (drop from text) ≡ bytes
    → Ok (left (cut from count (drop 2 stack))) ≡ pushed (Str bytes) (drop 3 stack)
third_cut [] from count text bytes there is = absurd (cc)
third_cut (x ∷ []) from count text bytes there is = absurd (cc)
third_cut (x ∷ y ∷ []) from count text bytes there is = absurd (cc)
third_cut (x ∷ y ∷ z ∷ stack) from count text bytes there is =
    let same : z ≡ Str text = cc in
    ap (λ (v : Value). let r : Result Effect Fault = Ok (left (part_from from count v ∷ stack)) in r) same
    ∙ ap (λ (b : List ℕ). let r : Result Effect Fault = Ok (left (Str b ∷ stack)) in r) is
