-- What stands where a text is split: the byte there, and the rest.
use Rattle.std.proofs.Common.{◌≡◌, ℕ, ◌+◌, ◌<◌, List, ◌∷◌, length, drop, get_or, ◌∙◌}
use Rattle.std.proofs.lemmas.List.{drop_more}

-- the byte at a place, and what comes behind it
abbrev pub from_here : List ℕ → ℕ → List ℕ
from_here text at = get_or text at 0 ∷ drop (at + 1) text

-- a text from a place on, and the second part where it was split there
pub record Here (text : List ℕ) (at : ℕ) (second : List ℕ) : Type 0 where
  pub first : drop at text ≡ from_here text at
  pub back : second ≡ from_here text at

pub here : (text : List ℕ) (at : ℕ) (second : List ℕ) → at < length text → second ≡ drop at text → Here text at second
here text at second within is = let first = drop_more text at 0 within in record { first = first; back = is ∙ first }
