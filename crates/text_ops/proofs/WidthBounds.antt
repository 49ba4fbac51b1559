-- No byte is wider than WIDEST_BYTE, and no control word.
use Rattle.std.proofs.Common.{◌≡◌, ℕ, zero, suc, ◌-◌, ◌*◌, ◌≤◌, List, [], ◌∷◌, ◌++◌, length, get_or, refl, arith, Bool, true, false}
use Rattle.std.specs.Prelude.{nat_le, ◌&&◌, if◌then◌else◌, codes, bytes_eq, slice_index}
use Rattle.std.specs.List.{list_all, sum_by}
use Rattle.std.proofs.lemmas.List.{length-drop}
use Rattle.std.proofs.lemmas.List.Sums.{sum_by-cons}
use Rattle.std.proofs.lemmas.Bool.Decides.{nat_tests}
use Rattle.bv_base.specs.Levels.{is_foreign, is_brace, next_level, word_letters, pieces_after, inside, closing, beyond, Other, ControlWord, Plain, Special}
use Rattle.text_ops.specs.declared.width.TheConstants.{WIDEST_BYTE}
use Rattle.text_ops.specs.Width.{widths, byte_width, word_width, owned, owned_space, printed_after, printed_parts, part_width, piece_width}
use Rattle.text_ops.proofs.Induction.{by_pieces, by_parts, special_lengths}
use Rattle.text_ops.proofs.PieceSteps.{pieces_beyond, special_level}
use Rattle.text_ops.proofs.PartSteps.{by_drop}

below : (m : ℕ) (xs : List ℕ) (i : ℕ) → list_all (λ x. nat_le x m) xs ≡ true → get_or xs i 0 ≤ m
below m [] i h = omega arith
below m (x ∷ xs) zero h = grind (arith, nat_tests)
below m (x ∷ xs) (suc i) h = below m xs i (grind (arith, nat_tests))

pub table_bound : (i : ℕ) → get_or widths i 0 ≤ WIDEST_BYTE
table_bound i = below WIDEST_BYTE widths i refl

pub byte_width_bound : (b : ℕ) → byte_width b ≤ WIDEST_BYTE
byte_width_bound b =
    elim (nat_le 32 b && nat_le b 126) as (λ v. (if v then slice_index widths (b - 32) else 0) ≤ WIDEST_BYTE) [ true ↦ table_bound (b - 32) | false ↦ omega arith ]

at_most : (v : Bool) (a b : ℕ) → a ≤ WIDEST_BYTE → b ≤ WIDEST_BYTE → (if v then a else b) ≤ WIDEST_BYTE
at_most true a b h k = h
at_most false a b h k = k

pub word_width_bound : (letters : List ℕ) → word_width letters ≤ WIDEST_BYTE
word_width_bound letters =
    at_most (bytes_eq letters (codes "ss")) _ _ (omega arith)
    (at_most (bytes_eq letters (codes "ae")) _ _ (omega arith)
    (at_most (bytes_eq letters (codes "oe")) _ _ (omega arith)
    (at_most (bytes_eq letters (codes "AE")) _ _ (omega arith)
    (at_most (bytes_eq letters (codes "OE")) _ _ (omega arith)
    (at_most (is_foreign letters) _ _ (byte_width_bound (slice_index letters 0)) (omega arith))))))

-- ---- whole texts

bounded_special : (inner : List ℕ) → sum_by part_width (printed_parts inner) ≤ WIDEST_BYTE * length inner
bounded_special = by_parts (λ bs. length (owned bs ++ owned_space bs)) (λ inner. sum_by part_width (printed_parts inner) ≤ WIDEST_BYTE * length inner) (omega arith)
    (λ b bs e rest. rw (e, sum_by-cons part_width (Other b) (printed_parts bs)) (omega (arith, at_most (is_brace b) 0 (byte_width b) (omega arith) (byte_width_bound b), rest)))
    (λ b bs e rest. rw (e, sum_by-cons part_width (ControlWord (word_letters bs) (owned_space bs)) (printed_after (length (owned bs ++ owned_space bs)) bs), by_drop owned owned_space (length (owned bs ++ owned_space bs)) bs)
    (omega (arith, word_width_bound (word_letters bs), length-drop (length (owned bs ++ owned_space bs)) bs, rest)))

pub bounded_pieces : (level : ℕ) (text : List ℕ) → sum_by piece_width (pieces_after 0 level text) ≤ WIDEST_BYTE * length text
bounded_pieces = by_pieces (λ level text. sum_by piece_width (pieces_after 0 level text) ≤ WIDEST_BYTE * length text) (λ level. omega arith)
    (λ level b bs e rest. rw (e, sum_by-cons piece_width (Plain level b) (pieces_after 0 (next_level level b) bs)) (omega (arith, byte_width_bound b, rest)))
    (λ level b bs e rest.
    let later : sum_by piece_width (pieces_after 0 0 (beyond 1 bs)) ≤ WIDEST_BYTE * length (beyond 1 bs) = rw (special_level level (b ∷ bs) e) at rest in
    rw (e, pieces_beyond 1 bs (omega arith), sum_by-cons piece_width (Special (inside 1 bs) (closing 1 bs)) (pieces_after 0 0 (beyond 1 bs)))
    (omega (arith, bounded_special (inside 1 bs), special_lengths bs, later)))
