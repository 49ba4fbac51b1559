-- The full stop at the end of a sentence (docs/TEXTS.md, "add.period$").
use Rattle.std.specs.Prelude.{ℕ, Bool, false, not, nat_eq, if◌then◌else◌, List, [], ◌∷◌, ◌++◌, reverse, find, Option, Some, None, codes}
use Rattle.bv_base.specs.Bytes.{is_among}

-- a full stop, a question mark or an exclamation mark
abbrev pub is_stop : Option ℕ → Bool
is_stop None = false
is_stop (Some b) = is_among (codes ".?!") b

-- the last byte other than `}`
abbrev pub last_other : List ℕ → Option ℕ
last_other text = find (λ b. not (nat_eq b 125)) (reverse text)

-- the text, with a full stop behind it where its last byte other than `}` is no stop. The empty text stays
abbrev pub with_period : List ℕ → List ℕ
with_period [] = []
with_period (b ∷ bs) = if is_stop (last_other (b ∷ bs)) then b ∷ bs else (b ∷ bs) ++ codes "."
