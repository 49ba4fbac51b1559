-- Parts of bytes.
use Rattle.std.proofs.Common.{◌≡◌, ℕ, ◌-◌, inl, inr, le_refl, sym, ap, ◌∙◌, List, drop, length, take, min, arith}
use Rattle.std.proofs.lemmas.Bool.{cases_lt}
use Rattle.std.proofs.lemmas.List.{drop_all, length-take, take-take, take_all}

-- the first so many of the first so many
pub taken : {A : Type 0} (count r : ℕ) (zs : List A) → take (min count r) zs ≡ take count (take r zs)
taken count r zs =
    elim (cases_lt count r) [
      | inl h ↦
          let e : min count r ≡ count = omega (arith, h) in
          ap (λ n. take n zs) e ∙ sym (take-take count r zs (omega (arith, h)))
      | inr h ↦
          let e : min count r ≡ r = omega (arith, h) in
          ap (λ n. take n zs) e ∙ sym (take_all count (take r zs) (omega (arith, h, length-take r zs)))
    ]

-- so many from a place on, of what there is
pub part_within : (bytes : List ℕ) (from count : ℕ)
    → take (min count (length (drop (min from (length bytes)) bytes))) (drop (min from (length bytes)) bytes) ≡ take count (drop from bytes)
part_within bytes from count =
    elim (cases_lt from (length bytes)) [
      | inl h ↦
          let e : min from (length bytes) ≡ from = omega (arith, h) in
          ap (λ k. take (min count (length (drop k bytes))) (drop k bytes)) e
          ∙ taken count (length (drop from bytes)) (drop from bytes)
          ∙ ap (λ zs. take count zs) (take_all (length (drop from bytes)) (drop from bytes) (le_refl (length (drop from bytes))))
      | inr h ↦
          let e : min from (length bytes) ≡ length bytes = omega (arith, h) in
          ap (λ k. take (min count (length (drop k bytes))) (drop k bytes)) e
          ∙ ap (λ zs. take (min count (length zs)) zs) (drop_all (length bytes) bytes (le_refl (length bytes)) ∙ sym (drop_all from bytes h))
          ∙ taken count (length (drop from bytes)) (drop from bytes)
          ∙ ap (λ zs. take count zs) (take_all (length (drop from bytes)) (drop from bytes) (le_refl (length (drop from bytes))))
    ]
