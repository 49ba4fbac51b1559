-- Words of the laws that hold of every text (docs/TEXTS.md).
use Rattle.std.specs.Prelude.{ℕ, Bool, ◌≡◌, ◌||◌, not, nat_eq, List, ◌++◌}
use Rattle.bv_base.specs.Bytes.{is_white}
use Rattle.bv_base.specs.Levels.{is_ascii_letter, is_letter}
use Rattle.bv_base.specs.Runs.{is_digit}

-- the bytes stand together in the text
abbrev pub IsPartOf : List ℕ → List ℕ → Type 0
IsPartOf text part = (before : List ℕ) × (after : List ℕ) × (text ≡ before ++ (part ++ after))

-- a letter, a digit or a space
abbrev pub is_pure : ℕ → Bool
is_pure b = is_letter b || is_digit b || nat_eq b 32

-- neither an ASCII letter nor `\` nor white space
abbrev pub is_fixed : ℕ → Bool
is_fixed b = not (is_ascii_letter b || nat_eq b 92 || is_white b)
