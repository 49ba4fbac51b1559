-- The width of a text in print (docs/TEXTS.md, "width$").
use Rattle.std.specs.Prelude.{ℕ, ◌-◌, ◌&&◌, nat_eq, nat_le, if◌then◌else◌, List, [], ◌∷◌, length, take, drop, slice_index, sum_by, codes, bytes_eq}
use Rattle.bv_base.specs.Bytes.{is_white}
use Rattle.bv_base.specs.Levels.{is_brace, is_foreign, parts_by, run, word_letters, Piece, Plain, Special, SpecialPart, ControlWord, Other, pieces}

-- the widths of the bytes from 32 to 126, in order
abbrev pub widths : List ℕ
widths =
    278 ∷ 278 ∷ 500 ∷ 833 ∷ 500 ∷ 833 ∷ 778 ∷ 278 ∷ 389 ∷ 389 ∷ 500 ∷ 778 ∷ 278 ∷ 333 ∷ 278 ∷ 500 ∷
    500 ∷ 500 ∷ 500 ∷ 500 ∷ 500 ∷ 500 ∷ 500 ∷ 500 ∷ 500 ∷ 500 ∷
    278 ∷ 278 ∷ 278 ∷ 778 ∷ 472 ∷ 472 ∷ 778 ∷
    750 ∷ 708 ∷ 722 ∷ 764 ∷ 681 ∷ 653 ∷ 785 ∷ 750 ∷ 361 ∷ 514 ∷ 778 ∷ 625 ∷ 917 ∷
    750 ∷ 778 ∷ 681 ∷ 778 ∷ 736 ∷ 556 ∷ 722 ∷ 750 ∷ 750 ∷ 1028 ∷ 750 ∷ 750 ∷ 611 ∷
    278 ∷ 500 ∷ 278 ∷ 500 ∷ 278 ∷ 278 ∷
    500 ∷ 556 ∷ 444 ∷ 556 ∷ 444 ∷ 306 ∷ 500 ∷ 556 ∷ 278 ∷ 306 ∷ 528 ∷ 278 ∷ 833 ∷
    556 ∷ 500 ∷ 556 ∷ 528 ∷ 392 ∷ 394 ∷ 389 ∷ 556 ∷ 528 ∷ 722 ∷ 528 ∷ 528 ∷ 444 ∷
    500 ∷ 1000 ∷ 500 ∷ 500 ∷ []

-- bytes outside the table have no width
abbrev pub byte_width : ℕ → ℕ
byte_width b = if nat_le 32 b && nat_le b 126 then slice_index widths (b - 32) else 0

-- what belongs to a control word, of the bytes after its `\`: its letters, or the one byte directly after the `\`
-- where there are none
abbrev pub owned : List ℕ → List ℕ
owned bs = if nat_eq (length (word_letters bs)) 0 then take 1 bs else word_letters bs

-- the white space directly after it
abbrev pub owned_space : List ℕ → List ℕ
owned_space bs = run is_white (drop (length (owned bs)) bs)

-- the parts of the bytes within a special character as they are printed, without so many of them: they belong to a
-- control word that began before. A byte that belongs to a control word begins no other
abbrev pub printed_after : ℕ → List ℕ → List SpecialPart
printed_after passed bs = parts_by owned owned_space passed bs

-- the parts of the bytes within a special character as they are printed, in order
abbrev pub printed_parts : List ℕ → List SpecialPart
printed_parts inner = printed_after 0 inner

-- the ligatures have widths of their own, and the other foreign words that of their first letter
abbrev pub word_width : List ℕ → ℕ
word_width letters =
    if bytes_eq letters (codes "ss") then 500
    else if bytes_eq letters (codes "ae") then 722
    else if bytes_eq letters (codes "oe") then 778
    else if bytes_eq letters (codes "AE") then 903
    else if bytes_eq letters (codes "OE") then 1014
    else if is_foreign letters then byte_width (slice_index letters 0)
    else 0

-- the width of a part of a special character, in which braces have none
abbrev pub part_width : SpecialPart → ℕ
part_width (ControlWord letters space) = word_width letters
part_width (Other b) = if is_brace b then 0 else byte_width b

-- the braces of a special character have no width
abbrev pub piece_width : Piece → ℕ
piece_width (Plain level b) = byte_width b
piece_width (Special inner close) = sum_by part_width (printed_parts inner)

-- the width of a text: that of its pieces
abbrev pub width_of : List ℕ → ℕ
width_of text = sum_by piece_width (pieces text)
