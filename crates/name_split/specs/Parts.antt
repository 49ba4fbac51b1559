-- The parts of a name (docs/NAMES.md, "Parts").
use Rattle.std.specs.Prelude.{◌≡◌, ℕ, ◌+◌, ◌-◌, Bool, false, ◌&&◌, nat_eq, nat_lt, not, if◌then◌else◌, List, [], ◌∷◌, length, take, drop, Result, Ok, Err}
use Rattle.std.specs.List.{list_all}
use Rattle.bv_base.specs.Levels.{next_level}
use Rattle.name_split.specs.declared.parts.NameFault.{NameFault}
use Rattle.name_split.specs.declared.parts.NameFault.TheVariants.{TooManyCommas, CommaAtEnd}
use Rattle.name_split.specs.declared.parts.NameParts.{NameParts}
use Rattle.name_split.specs.declared.spans.Parts.{Parts}
use Rattle.name_split.specs.declared.tokens.Token.{Token}
use Rattle.name_split.specs.declared.spans.Span.{Span}
use Rattle.name_split.specs.Spans.{front, kept, slice}
use Rattle.name_split.specs.Tokens.{is_joint, tokens_of}

-- a part without tokens
abbrev pub empty : Span
empty = record { start = 0; end = 0 }

-- the end of the last of some tokens
abbrev pub last_end : Token → List Token → ℕ
last_end token [] = token.end
last_end token (next ∷ tokens) = last_end next tokens

-- from the first token's start to the last token's end
abbrev pub whole : List Token → Span
whole [] = empty
whole (token ∷ tokens) = record { start = token.start; end = last_end token tokens }

-- all tokens but the last
abbrev pub but_last : List Token → List Token
but_last [] = []
but_last (token ∷ []) = []
but_last (token ∷ next ∷ tokens) = token ∷ but_last (next ∷ tokens)

-- the token isn't low
abbrev pub is_high : Token → Bool
is_high token = not token.low

-- a `-` follows the token
abbrev pub is_tied : Token → Bool
is_tied token = token.dash

-- how many tokens stand before the first low one that isn't the last token
abbrev pub von_start : List Token → ℕ
von_start tokens = front is_high (but_last tokens)

-- how many tokens there are up to the last low one that isn't the last token; 0 where there is none
abbrev pub von_end : List Token → ℕ
von_end tokens = kept is_high (but_last tokens)

-- how many tokens stand before those that a chain of `-` ties to the last one
abbrev pub chain_start : List Token → ℕ
chain_start tokens = kept is_tied (but_last tokens)

-- the parts of a name without commas that has a low token before its last
abbrev pub with_von : List Token → Parts
with_von tokens = record {
  first = whole (take (von_start tokens) tokens);
  von = whole (take (von_end tokens - von_start tokens) (drop (von_start tokens) tokens));
  last = whole (drop (von_end tokens) tokens);
  jr = empty;
}

-- the parts of a name without commas that has none
abbrev pub without_von : List Token → Parts
without_von tokens = record {
  first = whole (take (chain_start tokens) tokens);
  von = empty;
  last = whole (drop (chain_start tokens) tokens);
  jr = empty;
}

-- the parts of a name without commas
abbrev pub plain_parts : List Token → Parts
plain_parts tokens = if nat_eq (von_end tokens) 0 then without_von tokens else with_von tokens

-- the parts of a name with commas, by the tokens before the first
abbrev pub comma_parts : List Token → Span → Span → Parts
comma_parts tokens jr first = record {
  first = first;
  von = whole (take (von_end tokens) tokens);
  last = whole (drop (von_end tokens) tokens);
  jr = jr;
}

-- the commas at level 0
abbrev pub commas : ℕ → ℕ → List ℕ → List ℕ
commas at level [] = []
commas at level (b ∷ bytes) =
    let more = commas (at + 1) (next_level level b) bytes in
    if nat_eq level 0 && nat_eq b 44 then at ∷ more else more

-- the last byte that is no joint is a comma at level 0
abbrev pub ends_in_comma : ℕ → List ℕ → Bool
ends_in_comma level [] = false
ends_in_comma level (b ∷ bytes) =
    if list_all is_joint bytes then nat_eq level 0 && nat_eq b 44 else ends_in_comma (next_level level b) bytes

-- the tokens from a byte of a name up to another
abbrev pub tokens_between : List ℕ → ℕ → ℕ → List Token
tokens_between name from to = tokens_of from (slice name (record { start = from; end = to }))

-- the parts of a name with these commas at level 0, of which there are at most two
abbrev pub parts_with : List ℕ → List ℕ → Parts
parts_with name [] = plain_parts (tokens_of 0 name)
parts_with name (comma ∷ []) =
    comma_parts (tokens_between name 0 comma) empty (whole (tokens_between name (comma + 1) (length name)))
parts_with name (comma ∷ second ∷ _) =
    comma_parts (tokens_between name 0 comma) (whole (tokens_between name (comma + 1) second))
    (whole (tokens_between name (second + 1) (length name)))

-- the parts of a name, or what is wrong with it
abbrev pub parts_of : List ℕ → Result Parts NameFault
parts_of name =
    if nat_lt 2 (length (commas 0 0 name)) then Err TooManyCommas
    else if ends_in_comma 0 name then Err CommaAtEnd
    else Ok (parts_with name (commas 0 0 name))

-- slices of a name at these stretches
pub record AreSlices (name : List ℕ) (spans : Parts) (parts : NameParts) : Type 0 where
  pub first : parts.first.now ≡ slice name spans.first
  pub von : parts.von.now ≡ slice name spans.von
  pub last : parts.last.now ≡ slice name spans.last
  pub jr : parts.jr.now ≡ slice name spans.jr
