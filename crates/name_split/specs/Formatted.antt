-- Names written by a pattern (docs/NAMES.md, "Formatting").
use Rattle.std.specs.Prelude.{ℕ, zero, suc, ◌+◌, ◌-◌, ℤ, pos, negsuc, Bool, true, false, ◌&&◌, ◌||◌, not, nat_eq, nat_lt, if◌then◌else◌, List, [], ◌∷◌, ◌++◌, length, take, drop, filter, slice_get, slice_index, Option, None, Some, Result, Ok, Err}
use Rattle.bv_base.specs.Bytes.{lower}
use Rattle.bv_base.specs.Levels.{is_letter, inside, closing, pieces, is_text_character}
use Rattle.name_split.specs.declared.spans.Span.{Span}
use Rattle.name_split.specs.declared.parts.NameFault.{NameFault}
use Rattle.name_split.specs.declared.tokens.Token.{Token}
use Rattle.name_split.specs.Spans.{slice}
use Rattle.name_split.specs.Tokens.{first_is, tokens_of}
use Rattle.name_split.specs.declared.spans.Parts.{Parts}
use Rattle.name_split.specs.Parts.{parts_of}
use Rattle.name_split.specs.Names.{names_of}
use Rattle.name_split.specs.Patterns.{letter_runs, before_run, pattern_ok}

-- why a name isn't formatted, in the order in which the reasons are looked for
pub data Misfit : Type 0 where
  BadNameIndex : Misfit
  BadName : Misfit
  BadPattern : Misfit

-- how many text characters a text has
abbrev pub characters : List ℕ → ℕ
characters text = length (filter is_text_character (pieces text))

-- a token's initial: its first letter, or its first `{` with a `\` directly behind it, through the matching brace
abbrev pub initial : List ℕ → List ℕ
initial [] = []
initial (b ∷ bytes) =
    if nat_eq b 123 && first_is 92 bytes then 123 ∷ (inside 1 bytes ++ closing 1 bytes)
    else if is_letter b then b ∷ []
    else initial bytes

-- how the tokens of a part are written: whole or by their initials, with a text of the pattern's between them or by their joints
pub record Manner : Type 0 where
  pub is_whole : Bool
  pub between : Option (List ℕ)

-- how a token is written
abbrev pub token_text : Manner → List ℕ → List ℕ
token_text manner token = if manner.is_whole then token else initial token

-- the byte directly behind a token decides how it is joined to the next: white space counts as a space
abbrev pub joint_text : ℕ → Bool → List ℕ → List ℕ
joint_text b is_last written =
    if nat_eq b 126 || nat_eq b 45 then b ∷ []
    else if is_last || nat_lt (characters written) 3 then 126 ∷ []
    else 32 ∷ []

-- what follows an initial before a joint
abbrev pub period : Manner → List ℕ
period manner = if manner.is_whole then [] else 46 ∷ []

-- what was written since the first token, with what joins it to the next token, which may be the last
abbrev pub joined : Manner → Option (List ℕ) → ℕ → Bool → List ℕ → List ℕ
joined manner (Some text) b is_last written = written ++ text
joined manner None b is_last written =
    let dotted = written ++ period manner in dotted ++ joint_text b is_last dotted

-- the byte of a text at a place, counted from 0
abbrev pub byte_at : List ℕ → ℕ → ℕ
byte_at text at = slice_index text at

-- the bytes of a token
abbrev pub token_bytes : List ℕ → Token → List ℕ
token_bytes text token = slice text (record { start = token.start; end = token.end })

-- no token follows
abbrev pub is_alone : List Token → Bool
is_alone [] = true
is_alone (token ∷ tokens) = false

-- the tokens of a part, after what was written since the first of them
abbrev pub tokens_written : Manner → List ℕ → List ℕ → List Token → List ℕ
tokens_written manner text written [] = written
tokens_written manner text written (token ∷ []) = written ++ token_text manner (token_bytes text token)
tokens_written manner text written (token ∷ next ∷ tokens) =
    tokens_written manner text
    (joined manner manner.between (byte_at text token.end) (is_alone tokens) (written ++ token_text manner (token_bytes text token)))
    (next ∷ tokens)

-- without the last byte
abbrev pub but_last_byte : List ℕ → List ℕ
but_last_byte text = take (length text - 1) text

-- the last byte is this mark
abbrev pub ends_with : ℕ → List ℕ → Bool
ends_with mark [] = false
ends_with mark (b ∷ []) = nat_eq b mark
ends_with mark (b ∷ c ∷ bytes) = ends_with mark (c ∷ bytes)

-- the end of a group: of two `~` one is taken away, and one alone becomes a space where enough was written since the first token
abbrev pub tied : List ℕ → List ℕ → List ℕ
tied before since =
    let whole = before ++ since in
    if not (ends_with 126 whole) then whole
    else if ends_with 126 (but_last_byte whole) then but_last_byte whole
    else if nat_lt (characters (but_last_byte since)) 3 then whole
    else but_last_byte whole ++ 32 ∷ []

-- the part that a letter names
abbrev pub part_of : ℕ → Parts → Span
part_of b parts =
    if nat_eq (lower b) 102 then parts.first
    else if nat_eq (lower b) 118 then parts.von
    else if nat_eq (lower b) 108 then parts.last
    else parts.jr

-- the text in braces that follows the letters of a group directly, if one does
abbrev pub between_of : List ℕ → Option (List ℕ)
between_of [] = None
between_of (b ∷ bytes) = if nat_eq b 123 then Some (inside 1 bytes) else None

-- what follows the letters of a group and the text between tokens, if one follows the letters
abbrev pub behind_between : List ℕ → List ℕ
behind_between [] = []
behind_between (b ∷ bytes) = if nat_eq b 123 then drop (length (inside 1 bytes) + 1) bytes else b ∷ bytes

-- the tokens of a part between what stands before and behind the letters; nothing where there are none
abbrev pub part_written : Manner → List ℕ → List Token → List ℕ → List ℕ → List ℕ
part_written manner text [] before behind = []
part_written manner text (token ∷ tokens) before behind =
    tied before (tokens_written manner text [] (token ∷ tokens) ++ behind)

-- a group by its letters: without letters its text as it is
abbrev pub group_written : List ℕ → Parts → List ℕ → List (List ℕ) → List ℕ
group_written name parts group [] = group
group_written name parts group (run ∷ runs) =
    let text = slice name (part_of (slice_index run 0) parts) in
    let behind = drop (before_run 1 group + length run) group in
    part_written (record { is_whole = nat_lt 1 (length run); between = between_of behind }) text (tokens_of 0 text)
    (take (before_run 1 group) group) (behind_between behind)

-- a pattern whose first byte has level 0, without so many of its bytes, which belong to a group that began before
abbrev pub pattern_written : List ℕ → Parts → ℕ → List ℕ → List ℕ
pattern_written name parts passed [] = []
pattern_written name parts (suc passed) (b ∷ bytes) = pattern_written name parts passed bytes
pattern_written name parts zero (b ∷ bytes) =
    if nat_eq b 123
    then group_written name parts (inside 1 bytes) (letter_runs 1 (inside 1 bytes))
    ++ pattern_written name parts (length (inside 1 bytes) + 1) bytes
    else b ∷ pattern_written name parts zero bytes

-- a name that has these parts, by a pattern
abbrev pub name_written : List ℕ → Result Parts NameFault → List ℕ → Result (List ℕ) Misfit
name_written name (Err fault) pattern = Err BadName
name_written name (Ok parts) pattern =
    if pattern_ok pattern then Ok (pattern_written name parts zero pattern) else Err BadPattern

-- the name at a stretch of a text, if there is one, by a pattern
abbrev pub span_written : List ℕ → Option Span → List ℕ → Result (List ℕ) Misfit
span_written text None pattern = Err BadNameIndex
span_written text (Some span) pattern = name_written (slice text span) (parts_of (slice text span)) pattern

-- the name of a text with this number, counted from 1, by a pattern
abbrev pub formatted : List ℕ → ℤ → List ℕ → Result (List ℕ) Misfit
formatted text (negsuc n) pattern = Err BadNameIndex
formatted text (pos zero) pattern = Err BadNameIndex
formatted text (pos (suc n)) pattern = span_written text (slice_get (names_of text) n) pattern
