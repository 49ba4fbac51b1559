-- The laws of purified texts.
use Rattle.std.proofs.Common.{◌≡◌, ℕ, zero, suc, ◌≤◌, List, [], ◌∷◌, ◌++◌, length, take, refl, arith, Bool, true, false}
use Rattle.std.specs.Prelude.{◌&&◌, ◌||◌, if◌then◌else◌, codes}
use Rattle.std.specs.List.{flat_map, list_all}
use Rattle.std.proofs.lemmas.List.{length-append, length-drop, length-take}
use Rattle.bv_base.specs.Bytes.{is_white, is_among}
use Rattle.bv_base.specs.Levels.{next_level, is_ascii_letter, inside, beyond, run, word_letters, word_space, pieces_after, parts_after, special_parts, is_one_of}
use Rattle.text_ops.specs.Purify.{kept_byte, is_kept, purified_byte, purified_word, purified_part, purified_piece, spelled_words, ring_words}
use Rattle.text_ops.specs.Laws.{is_pure}
use Rattle.text_ops.proofs.PieceSteps.{pieces_beyond, special_level}
use Rattle.text_ops.proofs.PartSteps.{parts_drop, word_length}
use Rattle.text_ops.proofs.Induction.{by_pieces, by_parts, special_lengths}

pub all_append : (test : ℕ → Bool) (xs ys : List ℕ) → list_all test xs ≡ true → list_all test ys ≡ true → list_all test (xs ++ ys) ≡ true
all_append test [] ys h k = k
all_append test (x ∷ xs) ys h k =
    let M : Bool → Type 0 = λ v. test x ≡ v → list_all test ((x ∷ xs) ++ ys) ≡ true in
    (elim (test x) as M [
      | true ↦ λ e. rw e (all_append test xs ys (let rest : (test x && list_all test xs) ≡ true = h in rw e at rest) k)
      | false ↦ λ e. absurd (let rest : (test x && list_all test xs) ≡ true = h in cc (rw e at rest))
    ]) refl

all_take : (test : ℕ → Bool) (n : ℕ) (xs : List ℕ) → list_all test xs ≡ true → list_all test (take n xs) ≡ true
all_take test zero xs h = refl
all_take test (suc n) [] h = refl
all_take test (suc n) (x ∷ xs) h =
    let M : Bool → Type 0 = λ v. test x ≡ v → list_all test (take (suc n) (x ∷ xs)) ≡ true in
    (elim (test x) as M [
      | true ↦ λ e. rw e (all_take test n xs (let rest : (test x && list_all test xs) ≡ true = h in rw e at rest))
      | false ↦ λ e. absurd (let rest : (test x && list_all test xs) ≡ true = h in cc (rw e at rest))
    ]) refl

either : (v : Bool) (xs ys : List ℕ) → list_all is_pure xs ≡ true → list_all is_pure ys ≡ true → list_all is_pure (if v then xs else ys) ≡ true
either true xs ys h k = h
either false xs ys h k = k

-- ---- letters, digits and spaces alone

pure_kept : (b : ℕ) → list_all is_pure (kept_byte b) ≡ true
pure_kept b =
    let M : Bool → Type 0 = λ v. is_kept b ≡ v → list_all is_pure (if v then b ∷ [] else []) ≡ true in
    (elim (is_kept b) as M [ true ↦ λ e. rw e refl | false ↦ λ e. refl ]) refl

pure_byte : (b : ℕ) → list_all is_pure (purified_byte b) ≡ true
pure_byte b = either (is_white b || is_among (codes "~-") b) (32 ∷ []) (kept_byte b) refl (pure_kept b)

pure_letters : (bs : List ℕ) → list_all is_pure (word_letters bs) ≡ true
pure_letters [] = refl
pure_letters (b ∷ bs) =
    let M : Bool → Type 0 = λ v. is_ascii_letter b ≡ v → list_all is_pure (word_letters (b ∷ bs)) ≡ true in
    (elim (is_ascii_letter b) as M [ true ↦ λ e. rw (e, e) (pure_letters bs) | false ↦ λ e. rw e refl ]) refl

pure_word : (bs : List ℕ) → list_all is_pure (purified_word (word_letters bs)) ≡ true
pure_word bs =
    either (is_one_of spelled_words (word_letters bs)) _ _ (pure_letters bs)
    (either (is_one_of ring_words (word_letters bs)) _ _ (all_take is_pure 1 (word_letters bs) (pure_letters bs)) refl)

pure_special : (inner : List ℕ) → list_all is_pure (flat_map purified_part (special_parts inner)) ≡ true
pure_special = by_parts word_length (λ inner. list_all is_pure (flat_map purified_part (special_parts inner)) ≡ true) refl
    (λ b bs e rest. rw e (all_append is_pure (kept_byte b) _ (pure_kept b) rest))
    (λ b bs e rest. rw e (all_append is_pure (purified_word (word_letters bs)) _ (pure_word bs) (rw (parts_drop (word_length bs) bs) rest)))

pub pure_pieces : (level : ℕ) (text : List ℕ) → list_all is_pure (flat_map purified_piece (pieces_after 0 level text)) ≡ true
pure_pieces = by_pieces (λ level text. list_all is_pure (flat_map purified_piece (pieces_after 0 level text)) ≡ true) (λ level. refl)
    (λ level b bs e rest. rw e (all_append is_pure (purified_byte b) _ (pure_byte b) rest))
    (λ level b bs e rest. rw (e, pieces_beyond 1 bs (omega arith)) (all_append is_pure (flat_map purified_part (special_parts (inside 1 bs))) _ (pure_special (inside 1 bs)) (rw (special_level level (b ∷ bs) e) at rest)))

-- ---- at most as long

at_most : (v : Bool) (xs ys : List ℕ) (n : ℕ) → length xs ≤ n → length ys ≤ n → length (if v then xs else ys) ≤ n
at_most true xs ys n h k = h
at_most false xs ys n h k = k

short_kept : (b : ℕ) → length (kept_byte b) ≤ 1
short_kept b = at_most (is_kept b) (b ∷ []) [] 1 (omega arith) (omega arith)

short_byte : (b : ℕ) → length (purified_byte b) ≤ 1
short_byte b = at_most (is_white b || is_among (codes "~-") b) (32 ∷ []) (kept_byte b) 1 (omega arith) (short_kept b)

pub run_bound : (test : ℕ → Bool) (bs : List ℕ) → length (run test bs) ≤ length bs
run_bound test [] = omega arith
run_bound test (b ∷ bs) = at_most (test b) (b ∷ run test bs) [] (suc (length bs)) (omega (arith, run_bound test bs)) (omega arith)

short_word : (letters : List ℕ) → length (purified_word letters) ≤ length letters
short_word letters =
    at_most (is_one_of spelled_words letters) letters _ (length letters) (omega arith)
    (at_most (is_one_of ring_words letters) (take 1 letters) [] (length letters) (simp length-take (omega arith)) (omega arith))

short_special : (inner : List ℕ) → length (flat_map purified_part (special_parts inner)) ≤ length inner
short_special = by_parts word_length (λ inner. length (flat_map purified_part (special_parts inner)) ≤ length inner) (omega arith)
    (λ b bs e rest. rw (e, length-append (kept_byte b) (flat_map purified_part (special_parts bs))) (omega (arith, short_kept b, rest)))
    (λ b bs e rest. rw (e, length-append (purified_word (word_letters bs)) (flat_map purified_part (parts_after (word_length bs) bs)), parts_drop (word_length bs) bs)
    (omega (arith, short_word (word_letters bs), run_bound is_ascii_letter bs, length-append (word_letters bs) (word_space bs), length-drop (word_length bs) bs, rest)))

pub short_pieces : (level : ℕ) (text : List ℕ) → length (flat_map purified_piece (pieces_after 0 level text)) ≤ length text
short_pieces = by_pieces (λ level text. length (flat_map purified_piece (pieces_after 0 level text)) ≤ length text) (λ level. omega arith)
    (λ level b bs e rest. rw (e, length-append (purified_byte b) (flat_map purified_piece (pieces_after 0 (next_level level b) bs))) (omega (arith, short_byte b, rest)))
    (λ level b bs e rest.
    let later : length (flat_map purified_piece (pieces_after 0 0 (beyond 1 bs))) ≤ length (beyond 1 bs) = rw (special_level level (b ∷ bs) e) at rest in
    rw (e, pieces_beyond 1 bs (omega arith), length-append (flat_map purified_part (special_parts (inside 1 bs))) (flat_map purified_piece (pieces_after 0 0 (beyond 1 bs))))
    (omega (arith, short_special (inside 1 bs), special_lengths bs, later)))
