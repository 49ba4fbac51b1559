-- The first text characters of a text (docs/TEXTS.md, "text.prefix$").
use Rattle.std.specs.Prelude.{ℕ, zero, suc, if◌then◌else◌, List, [], ◌∷◌, ◌++◌, flat_map, replicate, ℤ, pos, negsuc}
use Rattle.bv_base.specs.Levels.{Piece, pieces, spelling, is_text_character, level_after}

-- the pieces through the one that is the n-th text character, or all where there are fewer
abbrev pub first_characters : ℕ → List Piece → List Piece
first_characters zero ps = []
first_characters (suc n) [] = []
first_characters (suc n) (p ∷ ps) = p ∷ first_characters (if is_text_character p then n else suc n) ps

-- the shortest prefix that has n text characters, or all where there are fewer
abbrev pub prefix_of : List ℕ → ℕ → List ℕ
prefix_of text n = flat_map spelling (first_characters n (pieces text))

-- the text, with a `}` for each level that is open at its end
abbrev pub closed : List ℕ → List ℕ
closed text = text ++ replicate (level_after 0 text) 125

-- a count that is not above 0 gives the empty text
abbrev pub text_prefix_of : List ℕ → ℤ → List ℕ
text_prefix_of text (pos n) = closed (prefix_of text n)
text_prefix_of text (negsuc n) = []
