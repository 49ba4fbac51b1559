-- What is seen of a list so far, where one more is appended.
use Rattle.std.proofs.Common.{◌≡◌, ℕ, ◌+◌, ◌<◌, ◌∙◌, ap, sym, List, [], ◌∷◌, ◌++◌, get_or, length, map, take}
use Rattle.std.proofs.lemmas.List.{map_more, map_push}

-- a list that is made item by item is seen as the items so far are, and the next item as it is
pub mapped_more : {A B C : Type 0} (f : A → C) (g : B → C) (done more : List A) (items : List B) (i : ℕ) (d : B) (x : A) → more ≡ done ++ x ∷ []
    → i < length items → f x ≡ g (get_or items i d) → map f done ≡ map g (take i items) → map f more ≡ map g (take (i + 1) items)
mapped_more {A} {B} {C} f g done more items i d x is within one so_far =
    ap (λ (l : List A). map f l) is
    ∙ map_push f done x
    ∙ ap (λ (l : List C). l ++ f x ∷ []) so_far
    ∙ ap (λ (c : C). map g (take i items) ++ c ∷ []) one
    ∙ sym (map_more g items i d within)
