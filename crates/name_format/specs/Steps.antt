-- Steps of names written by a pattern (docs/NAMES.md, "Formatting").
use Rattle.std.specs.Prelude.{ℕ, Bool, false, ◌+◌, ◌-◌, ◌&&◌, nat_eq, List, [], ◌∷◌, ◌++◌, length, take, drop, Option, None, Some}
use Rattle.bv_base.specs.Levels.{inside}
use Rattle.name_split.specs.declared.tokens.Token.{Token}
use Rattle.name_split.specs.Formatted.{tied}
use Rattle.name_split.specs.Tokens.{first_is}

-- a `{` with a `\` directly behind it stands first
abbrev pub begins_word : List ℕ → Bool
begins_word [] = false
begins_word (b ∷ bytes) = nat_eq b 123 && first_is 92 bytes

-- what follows the brace that closes what was opened directly before these bytes
abbrev pub behind_brace : List ℕ → List ℕ
behind_brace bytes = drop (length (inside 1 bytes) + 1) bytes

-- the next token and those after it
abbrev pub with_next : Option Token → List Token → List Token
with_next None tokens = []
with_next (Some token) tokens = token ∷ tokens

-- a text whose end is a group, tied: the group begins at the one place, and its first token at the other
abbrev pub tied_at : ℕ → ℕ → List ℕ → List ℕ
tied_at begun from text = take begun text ++ tied (take (from - begun) (drop begun text)) (drop from text)
