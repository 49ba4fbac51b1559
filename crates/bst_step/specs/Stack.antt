-- What contracts see of a list that grows and shrinks at its top.
use Rattle.std.specs.Prelude.{ℕ, List, [], ◌∷◌, refl}
use Rattle.std.specs.Coded.{Coded, code_by, coded×, coded_ℕ, coded_list}

-- its items, the top first, and how many more fit with no allocation
pub record Pile (T : Type 0) : Type 0 where
  pub items : List T
  pub room : ℕ

-- a pile is stored as the pair of its fields
abbrev pub pile_code : {T : Type 0} → Coded T → Coded (Pile T)
pile_code {T} code =
    code_by (List T × ℕ) (coded× (coded_list code) coded_ℕ) (λ p. (p.items, p.room))
    (λ p. record { items = p.0; room = p.1 }) (λ _. refl)

-- the top once more
abbrev pub doubled : {X : Type 0} → List X → List X
doubled [] = []
doubled (a ∷ stack) = a ∷ a ∷ stack

-- the two topmost values are exchanged
abbrev pub swapped : {X : Type 0} → List X → List X
swapped (b ∷ a ∷ stack) = a ∷ b ∷ stack
swapped stack = stack
