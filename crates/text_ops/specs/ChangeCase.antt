-- The case of letters (docs/TEXTS.md, "change.case$").
use Rattle.std.specs.Prelude.{ℕ, Bool, true, false, ◌-◌, ◌&&◌, ◌||◌, not, nat_eq, nat_le, if◌then◌else◌, List, [], ◌∷◌, ◌++◌, map, reverse, flat_map, codes}
use Rattle.bv_base.specs.Bytes.{is_white, lower}
use Rattle.bv_base.specs.Levels.{is_brace, is_one_of, is_foreign, Piece, Plain, Special, SpecialPart, ControlWord, Other, pieces, special_parts, spelling, inside, closing}
use Rattle.text_ops.specs.declared.change_case.Case.{Case}
use Rattle.text_ops.specs.declared.change_case.Case.TheVariants.{Title, Lower, Upper}

-- a small ASCII letter becomes its capital
abbrev pub raise : ℕ → ℕ
raise b = if (nat_le 97 b && nat_le b 122) then b - 32 else b

-- a letter of the mode's case, and every other byte as it is
abbrev pub changed_byte : Case → ℕ → ℕ
changed_byte Title b = lower b
changed_byte Lower b = lower b
changed_byte Upper b = raise b

-- the words whose capitals are plain letters: they lose their `\` and the white space behind them
abbrev pub bare_words : List (List ℕ)
bare_words = codes "i" ∷ codes "j" ∷ codes "ss" ∷ []

-- the words whose capitals are words too
abbrev pub small_words : List (List ℕ)
small_words = codes "oe" ∷ codes "ae" ∷ codes "aa" ∷ codes "o" ∷ codes "l" ∷ []

-- the mode makes plain letters of this control word
abbrev pub becomes_bare : Case → List ℕ → Bool
becomes_bare Title letters = false
becomes_bare Lower letters = false
becomes_bare Upper letters = is_one_of bare_words letters

-- the mode has another form of this control word
abbrev pub has_case : Case → List ℕ → Bool
has_case Title letters = is_foreign letters
has_case Lower letters = is_foreign letters
has_case Upper letters = is_one_of small_words letters

-- letters of the mode's case
abbrev pub changed_letters : Case → List ℕ → List ℕ
changed_letters mode letters = map (changed_byte mode) letters

-- a control word with the white space behind it
abbrev pub changed_word : Case → List ℕ → List ℕ → List ℕ
changed_word mode letters space =
    if becomes_bare mode letters then changed_letters mode letters
    else 92 ∷ (if has_case mode letters then changed_letters mode letters else letters) ++ space

-- a part of a special character in another case
abbrev pub changed_part : Case → SpecialPart → List ℕ
changed_part mode (ControlWord letters space) = changed_word mode letters space
changed_part mode (Other b) = changed_byte mode b ∷ []

-- in braces that are no special character nothing changes
abbrev pub changed_plain : Case → ℕ → ℕ → ℕ
changed_plain mode level b = if nat_eq level 0 then changed_byte mode b else b

-- a piece in another case: of a special character its parts
abbrev pub changed_piece : Case → Piece → List ℕ
changed_piece mode (Plain level b) = changed_plain mode level b ∷ []
changed_piece mode (Special inner close) = 123 ∷ flat_map (changed_part mode) (special_parts inner) ++ close

-- the special character whose first brace stands before these bytes
abbrev pub whole_special : List ℕ → List ℕ
whole_special bs = spelling (Special (inside 1 bs) (closing 1 bs))

-- the special character whose first brace stands before these bytes, in another case
abbrev pub changed_special : Case → List ℕ → List ℕ
changed_special mode bs = changed_piece mode (Special (inside 1 bs) (closing 1 bs))

-- of these bytes, which come nearest first, the first that is not white space is a `:`
abbrev pub behind_colon : List ℕ → Bool
behind_colon [] = false
behind_colon (b ∷ bs) = if is_white b then behind_colon bs else nat_eq b 58

-- a title begins with the text, and after a `:` and white space. The bytes before come nearest first
abbrev pub begins_title : List ℕ → Bool
begins_title [] = true
begins_title (b ∷ bs) = is_white b && behind_colon bs

-- `t` leaves what begins a title as it is
abbrev pub leaves : Case → Bool → Bool
leaves Title title = title
leaves Lower title = false
leaves Upper title = false

-- the pieces one by one, behind the bytes before them, which come nearest first
abbrev pub changed_pieces : Case → List ℕ → List Piece → List ℕ
changed_pieces mode before [] = []
changed_pieces mode before (p ∷ ps) =
    (if leaves mode (begins_title before) then spelling p else changed_piece mode p) ++ changed_pieces mode (reverse (spelling p) ++ before) ps

-- a text in another case
abbrev pub case_changed : Case → List ℕ → List ℕ
case_changed mode text = changed_pieces mode [] (pieces text)

-- neither a brace nor a `:`
abbrev pub is_simple_byte : ℕ → Bool
is_simple_byte b = not (is_brace b || nat_eq b 58)

-- a text of such bytes in another case: it has no special character, and no title begins but at its front
abbrev pub simply_changed : Case → List ℕ → List ℕ
simply_changed Title (b ∷ bs) = b ∷ changed_letters Title bs
simply_changed mode text = changed_letters mode text
