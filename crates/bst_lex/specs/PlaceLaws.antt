-- What places count (docs/LANGUAGE.md, "Places").
use Rattle.std.specs.Prelude.{◌≡◌, ℕ, suc, true, List, [], ◌∷◌, if◌then◌else◌}
use Rattle.bst_lex.specs.Grammar.{is_line_end}

-- how many line ends some bytes have
abbrev pub line_ends : List ℕ → ℕ
line_ends [] = 0
line_ends (b ∷ bytes) = if is_line_end b then suc (line_ends bytes) else line_ends bytes

-- a line begins after these bytes: there are none, or the last is a line end
abbrev pub BeginsLine : List ℕ → Type 0
BeginsLine [] = Unit {0}
BeginsLine (b ∷ []) = is_line_end b ≡ true
BeginsLine (b ∷ c ∷ bytes) = BeginsLine (c ∷ bytes)
