-- How long a text is that a function on texts gives, and where it isn't blank.
use Rattle.std.proofs.Common.{◌≡◌, ℕ, zero, suc, ◌+◌, ◌-◌, ◌*◌, ◌/◌, ◌%◌, ◌≤◌, List, [], ◌∷◌, ◌++◌, length, drop, reverse, refl, ap, arith, Bool, true, false, ℤ, pos, negsuc, decimal, Some}
use Rattle.std.specs.Prelude.{◌||◌, ◌&&◌, nat_eq, nat_lt, int_le, unsigned_abs, if◌then◌else◌, codes}
use Rattle.std.specs.Fmt.{digits, digits_onto, digit_glyph}
use Rattle.std.specs.List.{flat_map, filter}
use Rattle.std.proofs.lemmas.Bool.{leb-true}
use Rattle.std.proofs.lemmas.Bool.Decides.{nat_tests}
use Rattle.std.proofs.lemmas.Fmt.{decimal_nonempty, length-decimal-le}
use Rattle.std.proofs.lemmas.List.{length-append, length-drop, length-take, length-map}
use Rattle.bv_base.specs.Bytes.{is_white}
use Rattle.bv_base.specs.Levels.{next_level, inside, closing, beyond, word_letters, word_space, is_text_character, Plain, Special, spelling, pieces_after, parts_after, special_parts}
use Rattle.text_ops.specs.AddPeriod.{is_stop, last_other, with_period}
use Rattle.text_ops.specs.Blank.{blank}
use Rattle.text_ops.specs.ChangeCase.{changed_byte, changed_plain, changed_letters, changed_word, changed_part, changed_piece, changed_pieces, becomes_bare, has_case, begins_title, leaves, case_changed}
use Rattle.text_ops.specs.IntToStr.{numeral}
use Rattle.text_ops.specs.Purify.{purified}
use Rattle.text_ops.specs.Substring.{part, substring_of}
use Rattle.text_ops.specs.TextLength.{text_length_of}
use Rattle.text_ops.specs.Width.{width_of}
use Rattle.text_ops.specs.declared.change_case.Case.{Case}
use Rattle.text_ops.proofs.Induction.{by_pieces, by_parts, special_whole}
use Rattle.text_ops.proofs.LawsOfCase.{word_whole}
use Rattle.text_ops.proofs.LawsOfPurify.{short_pieces}
use Rattle.text_ops.proofs.LawsOfSubstring.{is_short, is_none}
use Rattle.text_ops.proofs.PartSteps.{parts_drop, word_length}
use Rattle.text_ops.proofs.PieceSteps.{pieces_beyond, special_level, beyond_bound}
use Rattle.text_ops.proofs.WidthBounds.{bounded_pieces}
use Rattle.bst_meaning.specs.Operands.{has_32_bits}
use Rattle.sym_state.specs.Effects.{known_size, is_start, is_length}
use Rattle.sym_state.specs.WellMade.{size}

at_most : {X : Type 0} (v : Bool) (xs ys : List X) (n : ℕ) → length xs ≤ n → length ys ≤ n → length (if v then xs else ys) ≤ n
at_most true xs ys n h k = h
at_most false xs ys n h k = k

-- ---- full stops

pub with_period_longer : (text : List ℕ) → length text ≤ length (with_period text)
with_period_longer [] = omega arith
with_period_longer (b ∷ bs) =
    elim (is_stop (last_other (b ∷ bs))) as (λ v. length (b ∷ bs) ≤ length (if v then b ∷ bs else (b ∷ bs) ++ codes ".")) [
      | true ↦ omega arith
      | false ↦ omega (arith, length-append (b ∷ bs) (codes "."))
    ]

pub with_period_shorter : (text : List ℕ) → length (with_period text) ≤ length text + 1
with_period_shorter [] = omega arith
with_period_shorter (b ∷ bs) =
    at_most (is_stop (last_other (b ∷ bs))) (b ∷ bs) ((b ∷ bs) ++ codes ".") (length (b ∷ bs) + 1)
    (omega arith) (omega (arith, length-append (b ∷ bs) (codes ".")))

-- ---- purified texts, text characters and widths

pub purified_shorter : (text : List ℕ) → length (purified text) ≤ length text
purified_shorter text = short_pieces 0 text

fewer_characters : (level : ℕ) (text : List ℕ) → length (filter is_text_character (pieces_after 0 level text)) ≤ length text
fewer_characters = by_pieces (λ level text. length (filter is_text_character (pieces_after 0 level text)) ≤ length text) (λ level. omega arith)
    (λ level b bs e rest. rw e (
    let ps = pieces_after 0 (next_level level b) bs in
    at_most (is_text_character (Plain level b)) (Plain level b ∷ filter is_text_character ps) (filter is_text_character ps) (length (b ∷ bs))
    (omega (arith, rest)) (omega (arith, rest))))
    (λ level b bs e rest.
    let later : length (filter is_text_character (pieces_after 0 0 (beyond 1 bs))) ≤ length (beyond 1 bs) = rw (special_level level (b ∷ bs) e) at rest in
    rw (e, pieces_beyond 1 bs (omega arith)) (omega (arith, beyond_bound 1 bs, later)))

pub text_length_shorter : (text : List ℕ) → text_length_of text ≤ length text
text_length_shorter text = fewer_characters 0 text

pub width_bounded : (text : List ℕ) → width_of text ≤ 1028 * length text
width_bounded text = bounded_pieces 0 text

-- ---- texts in another case

word_within : (bs : List ℕ) → word_length bs ≤ length bs
word_within bs = omega (arith, ap length (word_whole bs), length-append (word_letters bs ++ word_space bs) (drop (word_length bs) bs))

word_shorter : (mode : Case) (letters space : List ℕ) → length (changed_word mode letters space) ≤ suc (length letters + length space)
word_shorter mode letters space =
    let same : length (changed_letters mode letters) ≡ length letters = length-map letters (changed_byte mode) in
    let word = if has_case mode letters then changed_letters mode letters else letters in
    let short : length word ≤ length letters
    = at_most (has_case mode letters) (changed_letters mode letters) letters (length letters) (omega (arith, same)) (omega arith) in
    at_most (becomes_bare mode letters) (changed_letters mode letters) (92 ∷ word ++ space) (suc (length letters + length space)) (omega (arith, same))
    (omega (arith, short, length-append word space))

special_shorter : (mode : Case) (inner : List ℕ) → length (flat_map (changed_part mode) (special_parts inner)) ≤ length inner
special_shorter mode = by_parts word_length (λ inner. length (flat_map (changed_part mode) (special_parts inner)) ≤ length inner) (omega arith)
    (λ b bs e rest. rw e (omega (arith, rest)))
    (λ b bs e rest.
    let word = changed_word mode (word_letters bs) (word_space bs) in
    rw (e, length-append word (flat_map (changed_part mode) (parts_after (word_length bs) bs)), parts_drop (word_length bs) bs)
    (omega (
      arith,
      word_shorter mode (word_letters bs) (word_space bs),
      word_within bs,
      length-append (word_letters bs) (word_space bs),
      length-drop (word_length bs) bs,
      rest,
    )))

special_length : (bs : List ℕ) → length (inside 1 bs ++ closing 1 bs) + length (beyond 1 bs) ≡ length bs
special_length bs = omega (arith, ap length (special_whole 1 bs), length-append (inside 1 bs ++ closing 1 bs) (beyond 1 bs))

pieces_shorter : (mode : Case) (level : ℕ) (text : List ℕ) → (before : List ℕ) → length (changed_pieces mode before (pieces_after 0 level text)) ≤ length text
pieces_shorter mode = by_pieces (λ level text. (before : List ℕ) → length (changed_pieces mode before (pieces_after 0 level text)) ≤ length text)
    (λ level before. omega arith)
    (λ level b bs e rest before. rw e (
    let first = if leaves mode (begins_title before) then b ∷ [] else changed_plain mode level b ∷ [] in
    let later = changed_pieces mode (b ∷ before) (pieces_after 0 (next_level level b) bs) in
    omega (
      arith,
      at_most (leaves mode (begins_title before)) (b ∷ []) (changed_plain mode level b ∷ []) 1 (omega arith) (omega arith),
      length-append first later,
      rest (b ∷ before),
    )))
    (λ level b bs e rest before.
    let inner = inside 1 bs in
    let close = closing 1 bs in
    let whole = spelling (Special inner close) in
    let changed = changed_piece mode (Special inner close) in
    let first = if leaves mode (begins_title before) then whole else changed in
    let behind = reverse whole ++ before in
    let last = changed_pieces mode behind (pieces_after 0 0 (beyond 1 bs)) in
    let short : length first ≤ suc (length inner + length close)
    = at_most (leaves mode (begins_title before)) whole changed (suc (length inner + length close)) (omega (arith, length-append inner close))
    (omega (arith, length-append (flat_map (changed_part mode) (special_parts inner)) close, special_shorter mode inner)) in
    let later : length last ≤ length (beyond 1 bs) = rw (special_level level (b ∷ bs) e) at (rest behind) in
    rw (e, pieces_beyond 1 bs (omega arith)) (omega (arith, short, later, length-append first last, length-append inner close, special_length bs)))

pub case_changed_shorter : (mode : Case) (text : List ℕ) → length (case_changed mode text) ≤ length text
case_changed_shorter mode text = pieces_shorter mode 0 text []

-- ---- substrings

part_shorter : (text : List ℕ) (start : ℤ) (count : ℕ) → length (part text start count) ≤ length text
part_shorter text (pos place) count = simp (length-take, length-drop) (omega arith)
part_shorter text (negsuc behind) count = simp (length-drop, length-take) (omega arith)

pub substring_shorter : (text : List ℕ) (start count : ℤ) → length (substring_of text start count) ≤ length text
substring_shorter text start count =
    at_most (int_le count (pos 0) || (nat_eq (unsigned_abs start) 0 || nat_lt (length text) (unsigned_abs start))) []
    (part text start (unsigned_abs count)) (length text) (omega arith) (part_shorter text start (unsigned_abs count))

pub substring_few : (text : List ℕ) (start : ℤ) (count : ℕ) → length (substring_of text start (pos count)) ≤ count
substring_few text start count = is_short text start count

pub substring_none : (text : List ℕ) (start : ℤ) (count : ℕ) → substring_of text start (negsuc count) ≡ []
substring_none text start count = is_none text start count

-- a place that the text has, and a count above 0
there : (text : List ℕ) (place n : ℕ) → 1 ≤ place → 1 ≤ n → place ≤ length text
    → (int_le (pos n) (pos 0) || (nat_eq place 0 || nat_lt (length text) place)) ≡ false
there text place n some one within = grind (arith, nat_tests)

-- where the text is long enough from the place on, the substring has as many bytes as were asked for
pub substring_exact : (text : List ℕ) (start : ℤ) (n : ℕ) → 1 ≤ size start → 1 ≤ n → size start + n - 1 ≤ length text
    → length (substring_of text start (pos n)) ≡ n
substring_exact text (pos place) n some one long = rw (there text place n some one (omega arith)) (simp (length-take, length-drop) (omega arith))
substring_exact text (negsuc behind) n some one long = rw (there text (suc behind) n some one (omega arith)) (simp (length-drop, length-take) (omega arith))

start_some : (start : ℤ) → is_start (Some start) ≡ true → 1 ≤ size start
start_some (pos zero) h = absurd (cc)
start_some (pos (suc place)) h = omega arith
start_some (negsuc behind) h = omega arith

-- the same of what is known of a start and of a length
pub substring_known : (text : List ℕ) (start count : ℤ) → is_start (Some start) ≡ true → is_length (Some count) ≡ true
    → known_size (Some start) + known_size (Some count) - 1 ≤ length text → length (substring_of text start count) ≡ known_size (Some count)
substring_known text start (pos zero) h k long = absurd (cc)
substring_known text start (pos (suc n)) h k long = substring_exact text start (suc n) (start_some start h) (omega arith) long
substring_known text start (negsuc n) h k long = absurd (cc)

-- ---- numerals

pub numeral_sizes : (n : ℤ) → has_32_bits n ≡ true → (1 ≤ length (numeral n)) × (length (numeral n) ≤ 11)
numeral_sizes (pos n) e =
    let h = leb-true n 2147483647 e in
    (omega (arith, decimal_nonempty n (omega arith)), omega (arith, length-decimal-le 10 n (omega arith) (omega arith) (omega arith)))
numeral_sizes (negsuc n) e =
    let h = leb-true n 2147483647 e in
    (omega arith, omega (arith, length-decimal-le 10 (suc n) (omega arith) (omega arith) (omega arith)))

-- ---- texts that aren't blank

pub joined_nonblank : (xs ys : List ℕ) → blank xs ≡ false → blank (xs ++ ys) ≡ false
joined_nonblank [] ys h = absurd (cc)
joined_nonblank (x ∷ xs) ys h =
    (elim (is_white x) as (λ v. (v && blank xs) ≡ false → (v && blank (xs ++ ys)) ≡ false) [ true ↦ λ k. joined_nonblank xs ys k | false ↦ λ k. refl ]) h

pub joined_nonblank_behind : (xs ys : List ℕ) → blank ys ≡ false → blank (xs ++ ys) ≡ false
joined_nonblank_behind [] ys h = h
joined_nonblank_behind (x ∷ xs) ys h = elim (is_white x) as (λ v. (v && blank (xs ++ ys)) ≡ false) [ true ↦ joined_nonblank_behind xs ys h | false ↦ refl ]

either_nonblank : (v : Bool) (xs ys : List ℕ) → blank xs ≡ false → blank ys ≡ false → blank (if v then xs else ys) ≡ false
either_nonblank true xs ys h k = h
either_nonblank false xs ys h k = k

pub with_period_nonblank : (text : List ℕ) → blank text ≡ false → blank (with_period text) ≡ false
with_period_nonblank [] h = h
with_period_nonblank (b ∷ bs) h =
    either_nonblank (is_stop (last_other (b ∷ bs))) (b ∷ bs) ((b ∷ bs) ++ codes ".") h (joined_nonblank (b ∷ bs) (codes ".") h)

begins_nonblank : (b : ℕ) (bs : List ℕ) → is_white b ≡ false → blank (b ∷ bs) ≡ false
begins_nonblank b bs e = rw e refl

glyph_nonwhite : (d : ℕ) → is_white (digit_glyph false d) ≡ false
glyph_nonwhite d = grind (arith, nat_tests)

digits_nonblank : (k n : ℕ) (acc : List ℕ) → blank acc ≡ false → blank (digits_onto k 10 false n acc) ≡ false
digits_nonblank zero n acc h = h
digits_nonblank (suc k) n acc h =
    let digit = digit_glyph false (n % 10) in
    let more : blank (digit ∷ acc) ≡ false = begins_nonblank digit acc (glyph_nonwhite (n % 10)) in
    either_nonblank (nat_eq (n / 10) 0) (digit ∷ acc) (digits_onto k 10 false (n / 10) (digit ∷ acc)) more
    (digits_nonblank k (n / 10) (digit ∷ acc) more)

decimal_nonblank : (n : ℕ) → blank (decimal n) ≡ false
unfolding digits
decimal_nonblank n =
    let digit = digit_glyph false (n % 10) in
    let first : blank (digit ∷ []) ≡ false = begins_nonblank digit [] (glyph_nonwhite (n % 10)) in
    either_nonblank (nat_eq (n / 10) 0) (digit ∷ []) (digits_onto 63 10 false (n / 10) (digit ∷ [])) first
    (digits_nonblank 63 (n / 10) (digit ∷ []) first)

pub numeral_nonblank : (n : ℤ) → blank (numeral n) ≡ false
numeral_nonblank (pos n) = decimal_nonblank n
numeral_nonblank (negsuc n) = refl
