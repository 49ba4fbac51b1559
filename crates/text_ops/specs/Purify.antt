-- The letters, digits and spaces of a text (docs/TEXTS.md, "purify$").
use Rattle.std.specs.Prelude.{ℕ, Bool, ◌||◌, not, nat_eq, if◌then◌else◌, List, [], ◌∷◌, take, flat_map, codes}
use Rattle.bv_base.specs.Bytes.{is_among, is_white}
use Rattle.bv_base.specs.Levels.{is_letter, is_one_of, Piece, Plain, Special, SpecialPart, ControlWord, Other, pieces, special_parts}
use Rattle.bv_base.specs.Runs.{is_digit}

-- letters and digits are kept
abbrev pub is_kept : ℕ → Bool
is_kept b = is_letter b || is_digit b

-- what a byte gives within special characters, and elsewhere where it becomes no space
abbrev pub kept_byte : ℕ → List ℕ
kept_byte b = if is_kept b then b ∷ [] else []

-- outside special characters white space, `~` and `-` become a space
abbrev pub purified_byte : ℕ → List ℕ
purified_byte b = if is_white b || is_among (codes "~-") b then 32 ∷ [] else kept_byte b

-- the control words that give their letters
abbrev pub spelled_words : List (List ℕ)
spelled_words = codes "oe" ∷ codes "OE" ∷ codes "ae" ∷ codes "AE" ∷ codes "ss" ∷ codes "o" ∷ codes "O" ∷ codes "l" ∷ codes "L" ∷ codes "i" ∷ codes "j" ∷ []

-- the control words that give their first letter
abbrev pub ring_words : List (List ℕ)
ring_words = codes "aa" ∷ codes "AA" ∷ []

-- what a control word gives, of its letters
abbrev pub purified_word : List ℕ → List ℕ
purified_word letters = if is_one_of spelled_words letters then letters else if is_one_of ring_words letters then take 1 letters else []

-- what a part of a special character gives
abbrev pub purified_part : SpecialPart → List ℕ
purified_part (ControlWord letters space) = purified_word letters
purified_part (Other b) = kept_byte b

-- what a piece gives: of a special character its parts alone
abbrev pub purified_piece : Piece → List ℕ
purified_piece (Plain level b) = purified_byte b
purified_piece (Special inner close) = flat_map purified_part (special_parts inner)

-- the text of what the pieces give
abbrev pub purified : List ℕ → List ℕ
purified text = flat_map purified_piece (pieces text)

-- no byte that a special character begins with
abbrev pub is_plain_byte : ℕ → Bool
is_plain_byte b = not (nat_eq b 123)
