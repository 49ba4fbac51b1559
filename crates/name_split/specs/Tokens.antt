-- The tokens of a name (docs/NAMES.md, "Tokens").
use Rattle.std.specs.Prelude.{ℕ, zero, suc, ◌+◌, Bool, true, false, ◌&&◌, ◌||◌, nat_eq, nat_le, if◌then◌else◌, List, [], ◌∷◌, length, take, drop}
use Rattle.bv_base.specs.Bytes.{is_white}
use Rattle.bv_base.specs.Levels.{begins_special, inside, is_ascii_letter, is_foreign, next_level, word_letters}
use Rattle.name_split.specs.Spans.{leveled_before}
use Rattle.name_split.specs.declared.tokens.Token.{Token}

-- what joins two tokens of a part: white space, `~` and `-`
abbrev pub is_joint : ℕ → Bool
is_joint b = is_white b || nat_eq b 126 || nat_eq b 45

-- what ends a token: a joint or a comma at level 0
abbrev pub ends_token : ℕ → ℕ → Bool
ends_token level b = nat_eq level 0 && (is_joint b || nat_eq b 44)

-- how many bytes of a token stand first, where the first has this level
abbrev pub token_length : ℕ → List ℕ → ℕ
token_length level bytes = leveled_before ends_token level bytes

-- a small ASCII letter
abbrev pub is_small : ℕ → Bool
is_small b = nat_le 97 b && nat_le b 122

-- the first ASCII letter is a small one
abbrev pub first_small : List ℕ → Bool
first_small [] = false
first_small (b ∷ bytes) = if is_ascii_letter b then is_small b else first_small bytes

-- what decides in a special character: the letters of its first control word where that is foreign, else what follows
-- them
abbrev pub deciding : List ℕ → List ℕ → List ℕ
deciding letters after = if is_foreign letters then letters else drop (length letters) after

-- whether a special character is low, by the bytes within its braces
abbrev pub special_low : List ℕ → Bool
special_low inner = first_small (deciding (word_letters (drop 1 inner)) (drop 1 inner))

-- whether a token is low: an ASCII letter at level 0 or a special character decides, whichever comes first
abbrev pub low_from : ℕ → List ℕ → Bool
low_from level [] = false
low_from level (b ∷ bytes) =
    if nat_eq level 0 && is_ascii_letter b then is_small b
    else if begins_special level (b ∷ bytes) then special_low (inside 1 bytes)
    else low_from (next_level level b) bytes

-- whether a token is low, from its first byte on, which has level 0
abbrev pub is_low : List ℕ → Bool
is_low token = low_from 0 token

-- the first byte is this mark
abbrev pub first_is : ℕ → List ℕ → Bool
first_is mark [] = false
first_is mark (b ∷ _) = nat_eq b mark

-- a token of so many bytes, which begins with the byte `at` of the name
abbrev pub token_at : ℕ → ℕ → List ℕ → Token
token_at at count bytes =
    record { start = at; end = at + count; low = is_low (take count bytes); dash = first_is 45 (drop count bytes) }

-- a token where there is one
abbrev pub added : Bool → Token → List Token → List Token
added true token tokens = token ∷ tokens
added false token tokens = tokens

-- the tokens of some bytes, of which the first is the byte `at` of the name; so many bytes are passed over, which
-- belong to a token that began before
abbrev pub tokens_after : ℕ → ℕ → List ℕ → List Token
tokens_after pass at [] = []
tokens_after (suc pass) at (b ∷ bytes) = tokens_after pass (at + 1) bytes
tokens_after zero at (b ∷ bytes) =
    let begins = if ends_token 0 b then false else true in
    added begins (token_at at (token_length 0 (b ∷ bytes)) (b ∷ bytes))
    (tokens_after (if begins then token_length (next_level 0 b) bytes else 0) (at + 1) bytes)

-- the tokens of some bytes of a name
abbrev pub tokens_of : ℕ → List ℕ → List Token
tokens_of at bytes = tokens_after 0 at bytes
