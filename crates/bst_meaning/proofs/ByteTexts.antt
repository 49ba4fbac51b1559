-- What a function on texts gives of bytes is of bytes.
use Rattle.std.proofs.Common.{ℕ, zero, suc, ◌+◌, ◌/◌, ◌%◌, ◌<◌, List, [], ◌∷◌, ◌++◌, length, take, drop, replicate, reverse, sym, subst, arith, Bool, true, false, ℤ, pos, negsuc, cond, decimal}
use Rattle.std.specs.Prelude.{◌||◌, nat_eq, if◌then◌else◌, codes}
use Rattle.std.specs.Fmt.{digits, digits_onto, digit_glyph}
use Rattle.std.specs.List.{flat_map}
use Rattle.std.proofs.lemmas.Bool.Decides.{nat_tests}
use Rattle.bv_base.specs.Bytes.{is_white, is_among}
use Rattle.bv_base.specs.Levels.{is_ascii_letter, inside, closing, beyond, run, word_letters, word_space, is_one_of, is_text_character, level_after, Piece, Special, spelling, pieces, pieces_after, parts_after, special_parts}
use Rattle.text_ops.specs.AddPeriod.{is_stop, last_other, with_period}
use Rattle.text_ops.specs.ChangeCase.{changed_byte, changed_plain, changed_letters, changed_word, changed_part, changed_piece, changed_pieces, becomes_bare, has_case, begins_title, leaves, case_changed}
use Rattle.text_ops.specs.IntToStr.{numeral}
use Rattle.text_ops.specs.Purify.{is_kept, kept_byte, purified_byte, spelled_words, ring_words, purified_word, purified_part, purified_piece, purified}
use Rattle.text_ops.specs.Substring.{substring_of}
use Rattle.text_ops.specs.TextPrefix.{first_characters, prefix_of, text_prefix_of}
use Rattle.text_ops.specs.declared.change_case.Case.{Case}
use Rattle.text_ops.specs.declared.change_case.Case.TheVariants.{Title, Lower, Upper}
use Rattle.text_ops.proofs.Induction.{by_pieces, by_parts, special_whole}
use Rattle.text_ops.proofs.LawsOfPrefix.{spelled}
use Rattle.text_ops.proofs.LawsOfSubstring.{is_part}
use Rattle.text_ops.proofs.PartSteps.{parts_drop, word_length}
use Rattle.text_ops.proofs.PieceSteps.{pieces_beyond, special_level}
use Rattle.name_table.specs.Numbers.{IsByteList}
use Rattle.name_table.proofs.ByteLists.{bytes_behind, bytes_dropped, bytes_in_front, bytes_joined, bytes_of_part, bytes_taken}

-- ---- parts of texts

either : (v : Bool) (xs ys : List ℕ) → IsByteList xs → IsByteList ys → IsByteList (if v then xs else ys)
either true xs ys h k = h
either false xs ys h k = k

bytes_of_run : (test : ℕ → Bool) (bs : List ℕ) → IsByteList bs → IsByteList (run test bs)
bytes_of_run test [] h = tt
bytes_of_run test (b ∷ bs) h = either (test b) (b ∷ run test bs) [] (h.0, bytes_of_run test bs h.1) tt

bytes_of_letters : (bs : List ℕ) → IsByteList bs → IsByteList (word_letters bs)
bytes_of_letters bs h = bytes_of_run is_ascii_letter bs h

bytes_of_space : (bs : List ℕ) → IsByteList bs → IsByteList (word_space bs)
bytes_of_space bs h = bytes_of_run is_white (drop (length (word_letters bs)) bs) (bytes_dropped (length (word_letters bs)) bs h)

-- the bytes of a special character, and those behind it
special_bytes : (bs : List ℕ) → IsByteList bs → IsByteList (inside 1 bs ++ closing 1 bs)
special_bytes bs h = bytes_in_front (inside 1 bs ++ closing 1 bs) (beyond 1 bs) (subst IsByteList (sym (special_whole 1 bs)) h)

inside_bytes : (bs : List ℕ) → IsByteList bs → IsByteList (inside 1 bs)
inside_bytes bs h = bytes_in_front (inside 1 bs) (closing 1 bs) (special_bytes bs h)

closing_bytes : (bs : List ℕ) → IsByteList bs → IsByteList (closing 1 bs)
closing_bytes bs h = bytes_behind (inside 1 bs) (closing 1 bs) (special_bytes bs h)

beyond_bytes : (bs : List ℕ) → IsByteList bs → IsByteList (beyond 1 bs)
beyond_bytes bs h = bytes_dropped (length (inside 1 bs ++ closing 1 bs)) bs h

-- ---- full stops

pub with_period_bytes : (text : List ℕ) → IsByteList text → IsByteList (with_period text)
with_period_bytes [] h = tt
with_period_bytes (b ∷ bs) h =
    either (is_stop (last_other (b ∷ bs))) (b ∷ bs) ((b ∷ bs) ++ codes ".") h (bytes_joined (b ∷ bs) (codes ".") h (omega arith, tt))

-- ---- purified texts

bytes_kept : (b : ℕ) → b < 256 → IsByteList (kept_byte b)
bytes_kept b h = either (is_kept b) (b ∷ []) [] (h, tt) tt

bytes_of_byte : (b : ℕ) → b < 256 → IsByteList (purified_byte b)
bytes_of_byte b h = either (is_white b || is_among (codes "~-") b) (32 ∷ []) (kept_byte b) (omega arith, tt) (bytes_kept b h)

bytes_of_word : (letters : List ℕ) → IsByteList letters → IsByteList (purified_word letters)
bytes_of_word letters h =
    either (is_one_of spelled_words letters) letters _ h (either (is_one_of ring_words letters) (take 1 letters) [] (bytes_taken 1 letters h) tt)

purified_special : (inner : List ℕ) → IsByteList inner → IsByteList (flat_map purified_part (special_parts inner))
purified_special = by_parts word_length (λ inner. IsByteList inner → IsByteList (flat_map purified_part (special_parts inner))) (λ h. tt)
    (λ b bs e rest h. rw e (bytes_joined (kept_byte b) (flat_map purified_part (special_parts bs)) (bytes_kept b h.0) (rest h.1)))
    (λ b bs e rest h. rw e (bytes_joined (purified_word (word_letters bs)) (flat_map purified_part (parts_after (word_length bs) bs))
    (bytes_of_word (word_letters bs) (bytes_of_letters bs h.1)) (rw (parts_drop (word_length bs) bs) (rest (bytes_dropped (word_length bs) bs h.1)))))

purified_pieces : (level : ℕ) (text : List ℕ) → IsByteList text → IsByteList (flat_map purified_piece (pieces_after 0 level text))
purified_pieces = by_pieces (λ level text. IsByteList text → IsByteList (flat_map purified_piece (pieces_after 0 level text))) (λ level h. tt)
    (λ level b bs e rest h. rw e (bytes_joined (purified_byte b) _ (bytes_of_byte b h.0) (rest h.1)))
    (λ level b bs e rest h.
    let later : IsByteList (flat_map purified_piece (pieces_after 0 0 (beyond 1 bs))) = rw (special_level level (b ∷ bs) e) at (rest (beyond_bytes bs h.1)) in
    rw (e, pieces_beyond 1 bs (omega arith))
    (bytes_joined (flat_map purified_part (special_parts (inside 1 bs))) (flat_map purified_piece (pieces_after 0 0 (beyond 1 bs)))
    (purified_special (inside 1 bs) (inside_bytes bs h.1)) later))

pub purified_bytes : (text : List ℕ) → IsByteList text → IsByteList (purified text)
purified_bytes text h = purified_pieces 0 text h

-- ---- texts in another case

byte_changed : (mode : Case) (b : ℕ) → b < 256 → changed_byte mode b < 256
byte_changed Title b h = grind (arith, nat_tests)
byte_changed Lower b h = grind (arith, nat_tests)
byte_changed Upper b h = grind (arith, nat_tests)

letters_changed : (mode : Case) (letters : List ℕ) → IsByteList letters → IsByteList (changed_letters mode letters)
letters_changed mode [] h = tt
letters_changed mode (b ∷ bs) h = (byte_changed mode b h.0, letters_changed mode bs h.1)

word_changed : (mode : Case) (letters space : List ℕ) → IsByteList letters → IsByteList space → IsByteList (changed_word mode letters space)
word_changed mode letters space h k =
    let word : IsByteList (if has_case mode letters then changed_letters mode letters else letters)
    = either (has_case mode letters) (changed_letters mode letters) letters (letters_changed mode letters h) h in
    either (becomes_bare mode letters) (changed_letters mode letters) (92 ∷ (if has_case mode letters then changed_letters mode letters else letters) ++ space)
    (letters_changed mode letters h) (omega arith, bytes_joined (if has_case mode letters then changed_letters mode letters else letters) space word k)

changed_special : (mode : Case) (inner : List ℕ) → IsByteList inner → IsByteList (flat_map (changed_part mode) (special_parts inner))
changed_special mode = by_parts word_length (λ inner. IsByteList inner → IsByteList (flat_map (changed_part mode) (special_parts inner))) (λ h. tt)
    (λ b bs e rest h. rw e (byte_changed mode b h.0, rest h.1))
    (λ b bs e rest h. rw e (bytes_joined (changed_word mode (word_letters bs) (word_space bs)) (flat_map (changed_part mode) (parts_after (word_length bs) bs))
    (word_changed mode (word_letters bs) (word_space bs) (bytes_of_letters bs h.1) (bytes_of_space bs h.1))
    (rw (parts_drop (word_length bs) bs) (rest (bytes_dropped (word_length bs) bs h.1)))))

plain_changed : (mode : Case) (level b : ℕ) → b < 256 → changed_plain mode level b < 256
plain_changed mode level b h =
    elim (nat_eq level 0) as (λ v. (if v then changed_byte mode b else b) < 256) [ true ↦ byte_changed mode b h | false ↦ h ]

pieces_changed : (mode : Case) (level : ℕ) (text : List ℕ)
    → (before : List ℕ) → IsByteList text → IsByteList (changed_pieces mode before (pieces_after 0 level text))
pieces_changed mode = by_pieces (λ level text. (before : List ℕ) → IsByteList text → IsByteList (changed_pieces mode before (pieces_after 0 level text)))
    (λ level before h. tt)
    (λ level b bs e rest before h. rw e
    (bytes_joined (if leaves mode (begins_title before) then b ∷ [] else changed_plain mode level b ∷ []) _
    (either (leaves mode (begins_title before)) (b ∷ []) (changed_plain mode level b ∷ []) (h.0, tt) (plain_changed mode level b h.0, tt))
    (rest (b ∷ before) h.1)))
    (λ level b bs e rest before h.
    let whole = spelling (Special (inside 1 bs) (closing 1 bs)) in
    let changed = changed_piece mode (Special (inside 1 bs) (closing 1 bs)) in
    let behind = reverse whole ++ before in
    let here : IsByteList (if leaves mode (begins_title before) then whole else changed)
    = either (leaves mode (begins_title before)) whole changed (omega arith, special_bytes bs h.1) (
      omega arith,
      bytes_joined (flat_map (changed_part mode) (special_parts (inside 1 bs))) (closing 1 bs)
          (changed_special mode (inside 1 bs) (inside_bytes bs h.1)) (closing_bytes bs h.1),
    ) in
    let later : IsByteList (changed_pieces mode behind (pieces_after 0 0 (beyond 1 bs)))
    = rw (special_level level (b ∷ bs) e) at (rest behind (beyond_bytes bs h.1)) in
    rw (e, pieces_beyond 1 bs (omega arith))
    (bytes_joined (if leaves mode (begins_title before) then whole else changed) (changed_pieces mode behind (pieces_after 0 0 (beyond 1 bs))) here later))

pub case_changed_bytes : (mode : Case) (text : List ℕ) → IsByteList text → IsByteList (case_changed mode text)
case_changed_bytes mode text h = pieces_changed mode 0 text [] h

-- ---- substrings and prefixes

pub substring_bytes : (text : List ℕ) (start count : ℤ) → IsByteList text → IsByteList (substring_of text start count)
substring_bytes text start count h =
    let found = is_part text start count in bytes_of_part text found.0 (substring_of text start count) found.1 found.2 h

first_bytes : (n : ℕ) (ps : List Piece) → IsByteList (flat_map spelling ps) → IsByteList (flat_map spelling (first_characters n ps))
first_bytes zero ps h = tt
first_bytes (suc n) [] h = tt
first_bytes (suc n) (p ∷ ps) h =
    let fewer = if is_text_character p then n else suc n in
    bytes_joined (spelling p) (flat_map spelling (first_characters fewer ps)) (bytes_in_front (spelling p) (flat_map spelling ps) h)
    (first_bytes fewer ps (bytes_behind (spelling p) (flat_map spelling ps) h))

bytes_repeated : (n b : ℕ) → b < 256 → IsByteList (replicate n b)
bytes_repeated zero b h = tt
bytes_repeated (suc n) b h = (h, bytes_repeated n b h)

pub text_prefix_bytes : (text : List ℕ) (count : ℤ) → IsByteList text → IsByteList (text_prefix_of text count)
text_prefix_bytes text (pos n) h =
    let first : IsByteList (prefix_of text n) = first_bytes n (pieces text) (subst IsByteList (sym (spelled 0 text)) h) in
    let open_levels = level_after 0 (prefix_of text n) in
    bytes_joined (prefix_of text n) (replicate open_levels 125) first (bytes_repeated open_levels 125 (omega arith))
text_prefix_bytes text (negsuc n) h = tt

-- ---- numerals

glyph_is_byte : (v : Bool) (d : ℕ) → d < 10 → cond v (48 + d) (87 + d) < 256
glyph_is_byte true d h = omega arith
glyph_is_byte false d h = omega arith

digits_bytes : (k n : ℕ) (acc : List ℕ) → IsByteList acc → IsByteList (digits_onto k 10 false n acc)
digits_bytes zero n acc h = h
digits_bytes (suc k) n acc h =
    let digit = digit_glyph false (n % 10) in
    let more : IsByteList (digit ∷ acc) = (glyph_is_byte _ (n % 10) (omega arith), h) in
    either (nat_eq (n / 10) 0) (digit ∷ acc) (digits_onto k 10 false (n / 10) (digit ∷ acc)) more (digits_bytes k (n / 10) (digit ∷ acc) more)

decimal_bytes : (n : ℕ) → IsByteList (decimal n)
unfolding digits
decimal_bytes n = digits_bytes 64 n [] tt

pub numeral_bytes : (n : ℤ) → IsByteList (numeral n)
numeral_bytes (pos n) = decimal_bytes n
numeral_bytes (negsuc n) = (omega arith, decimal_bytes (suc n))
