-- The front of a stack, seen from its top.
use Rattle.std.proofs.Common.{◌≡◌, ℕ, ◌-◌, ◌∙◌, sym, ap, List, ◌++◌, length, take, drop, reverse, arith, inl, inr}
use Rattle.std.proofs.lemmas.Bool.{cases_lt}
use Rattle.std.proofs.lemmas.List.{reverse-append, reverse-reverse, take-append-drop, length-reverse, length-drop, drop_at, drop_all}

-- what is taken off is as long as the top
parted : {A : Type 0} (front top : List A) → reverse (drop (length top) (reverse (front ++ top))) ≡ front
parted front top =
    ap (λ xs. reverse (drop (length top) xs)) (reverse-append front top)
    ∙ ap reverse (drop_at (reverse top) (reverse front) (length top) (length-reverse top))
    ∙ reverse-reverse front

-- what lies below the topmost items: nothing where they are all
pub front_left : {A : Type 0} (xs : List A) (n : ℕ) → take (length xs - n) xs ≡ reverse (drop n (reverse xs))
front_left {A} xs n = elim (cases_lt n (length xs)) [
  | inl few ↦
      let m : ℕ = length xs - n in
      let top : length (drop m xs) ≡ n = length-drop m xs ∙ omega arith in
      sym (ap (λ k. reverse (drop k (reverse xs))) (sym top)
      ∙ ap (λ ys. reverse (drop (length (drop m xs)) (reverse ys))) (sym (take-append-drop m xs))
      ∙ parted (take m xs) (drop m xs))
  | inr all ↦
      let none : length xs - n ≡ 0 = omega arith in
      ap (λ k. take k xs) none ∙ ap reverse (sym (drop_all n (reverse xs) (omega (arith, length-reverse xs))))
]
