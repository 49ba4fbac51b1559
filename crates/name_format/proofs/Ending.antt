-- The last byte of a text.
use Rattle.std.proofs.Common.{◌≡◌, ℕ, suc, ◌-◌, ◌<◌, nat_eq, List, [], ◌∷◌, length, get_or, refl, ap, ◌∙◌, arith}
use Rattle.name_split.specs.Formatted.{ends_with}

pub ends_last : (mark : ℕ) (text : List ℕ) → 0 < length text → ends_with mark text ≡ nat_eq (get_or text (length text - 1) 0) mark
ends_last mark [] some = absurd (omega arith)
ends_last mark (b ∷ []) some = refl
ends_last mark (b ∷ c ∷ text) some =
    ends_last mark (c ∷ text) (omega arith)
    ∙ ap (λ n. nat_eq (get_or (b ∷ c ∷ text) n 0) mark) {x = suc (length (c ∷ text) - 1)} {y = length (b ∷ c ∷ text) - 1} (omega arith)
