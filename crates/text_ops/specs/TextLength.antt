-- The length of a text in text characters (docs/TEXTS.md, "text.length$").
use Rattle.std.specs.Prelude.{ℕ, List, length, filter}
use Rattle.bv_base.specs.Levels.{pieces, is_text_character}

-- how many text characters a text has
abbrev pub text_length_of : List ℕ → ℕ
text_length_of text = length (filter is_text_character (pieces text))
