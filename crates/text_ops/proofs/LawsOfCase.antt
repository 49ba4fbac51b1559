-- The laws of texts in another case.
use Rattle.std.proofs.Common.{◌≡◌, ◌∙◌, ℕ, List, [], ◌∷◌, ◌++◌, length, drop, reverse, map, refl, ap, arith, sym, Bool, true, false, nat_eq, append_assoc}
use Rattle.std.specs.Prelude.{cond, if◌then◌else◌}
use Rattle.std.specs.List.{flat_map, filter}
use Rattle.std.proofs.lemmas.List.{map-append}
use Rattle.std.proofs.lemmas.Bool.Decides.{nat_tests}
use Rattle.bv_base.specs.Bytes.{is_white, lower}
use Rattle.bv_base.specs.Levels.{is_ascii_letter, inside, closing, beyond, run, word_letters, word_space, pieces_after, parts_after, special_parts, begins_special, spelling, Special, is_foreign}
use Rattle.text_ops.specs.ChangeCase.{changed_byte, changed_letters, changed_word, changed_part, changed_plain, changed_piece, changed_pieces, becomes_bare, has_case, begins_title, leaves, case_changed}
use Rattle.text_ops.specs.Laws.{is_fixed}
use Rattle.text_ops.specs.declared.change_case.Case.{Case}
use Rattle.text_ops.specs.declared.change_case.Case.TheVariants.{Title, Lower, Upper}
use Rattle.text_ops.proofs.PieceSteps.{pieces_beyond, special_level}
use Rattle.text_ops.proofs.PartSteps.{parts_drop, word_length, drop_word}
use Rattle.text_ops.proofs.Induction.{by_pieces, by_parts, special_whole}

pub run_whole : (test : ℕ → Bool) (bs : List ℕ) → run test bs ++ drop (length (run test bs)) bs ≡ bs
run_whole test [] = refl
run_whole test (b ∷ bs) =
    let M : Bool → Type 0 = λ v. (if v then b ∷ run test bs else []) ++ drop (length (if v then b ∷ run test bs else [])) (b ∷ bs) ≡ b ∷ bs in
    elim (test b) as M [ true ↦ ap (λ xs. b ∷ xs) (run_whole test bs) | false ↦ refl ]

-- a control word and what follows it make up the bytes behind its `\`
pub word_whole : (bs : List ℕ) → (word_letters bs ++ word_space bs) ++ drop (word_length bs) bs ≡ bs
word_whole bs =
    rw (drop_word bs bs)
    (append_assoc (word_letters bs) (word_space bs) _ ∙ (ap (λ xs. word_letters bs ++ xs) (run_whole is_white (drop (length (word_letters bs)) bs)) ∙ run_whole is_ascii_letter bs))

pub special_brace : (level b : ℕ) (bs : List ℕ) → begins_special level (b ∷ bs) ≡ true → b ≡ 123
special_brace level b [] h = absurd (cc)
special_brace level b (c ∷ bs) h = grind (arith, nat_tests)

-- what a view of texts shows of a text in another case, where it shows the same of its letters and its control words
module _ (mode : Case) (view : List ℕ → List ℕ) (joins : (xs ys : List ℕ) → view (xs ++ ys) ≡ view xs ++ view ys)
    (byte : (b : ℕ) → view (changed_byte mode b ∷ []) ≡ view (b ∷ []))
    (word : (bs : List ℕ) → view (changed_word mode (word_letters bs) (word_space bs)) ≡ view (92 ∷ word_letters bs ++ word_space bs)) where
  same_parts : (xs xs' ys ys' : List ℕ) → view xs ≡ view xs' → view ys ≡ view ys' → view (xs ++ ys) ≡ view (xs' ++ ys')
  same_parts xs xs' ys ys' e f = rw (joins xs ys, joins xs' ys', e, f) refl

  same_special : (inner : List ℕ) → view (flat_map (changed_part mode) (special_parts inner)) ≡ view inner
  same_special = by_parts word_length (λ inner. view (flat_map (changed_part mode) (special_parts inner)) ≡ view inner) refl
      (λ b bs e rest. rw e (same_parts (changed_byte mode b ∷ []) (b ∷ []) _ bs (byte b) rest))
      (λ b bs e rest.
      let mark : b ≡ 92 = grind (arith, nat_tests) in
      let later : view (flat_map (changed_part mode) (parts_after (word_length bs) bs)) ≡ view (drop (word_length bs) bs) = rw (parts_drop (word_length bs) bs) rest in
      let whole : (92 ∷ word_letters bs ++ word_space bs) ++ drop (word_length bs) bs ≡ 92 ∷ bs = ap (λ xs. 92 ∷ xs) (word_whole bs) in
      rw mark (same_parts (changed_word mode (word_letters bs) (word_space bs)) (92 ∷ word_letters bs ++ word_space bs) _ (drop (word_length bs) bs) (word bs) later ∙ ap view whole))

  same_plain : (level b : ℕ) → view (changed_plain mode level b ∷ []) ≡ view (b ∷ [])
  same_plain level b = elim (nat_eq level 0) as (λ v. view ((if v then changed_byte mode b else b) ∷ []) ≡ view (b ∷ [])) [ true ↦ byte b | false ↦ refl ]

  left_or_changed : (before : List ℕ) (p xs : List ℕ) (c : List ℕ) → view c ≡ view p → view (if leaves mode (begins_title before) then p else c) ≡ view p
  left_or_changed before p xs c e = elim (leaves mode (begins_title before)) as (λ v. view (if v then p else c) ≡ view p) [ true ↦ refl | false ↦ e ]

  pub same_pieces : (level : ℕ) (text : List ℕ) → (before : List ℕ) → view (changed_pieces mode before (pieces_after 0 level text)) ≡ view text
  same_pieces = by_pieces (λ level text. (before : List ℕ) → view (changed_pieces mode before (pieces_after 0 level text)) ≡ view text) (λ level before. refl)
      (λ level b bs e rest before.
      rw e (same_parts _ (b ∷ []) _ bs (left_or_changed before (b ∷ []) [] (changed_plain mode level b ∷ []) (same_plain level b)) (rest (b ∷ before))))
      (λ level b bs e rest before.
      let inner = inside 1 bs in
      let close = closing 1 bs in
      let brace : b ≡ 123 = special_brace level b bs e in
      let here : view (if leaves mode (begins_title before) then spelling (Special (inside 1 bs) (closing 1 bs)) else changed_piece mode (Special (inside 1 bs) (closing 1 bs))) ≡ view (123 ∷ inside 1 bs ++ closing 1 bs)
      = left_or_changed before (123 ∷ inside 1 bs ++ closing 1 bs) [] (changed_piece mode (Special (inside 1 bs) (closing 1 bs)))
      (same_parts (123 ∷ []) (123 ∷ []) (flat_map (changed_part mode) (special_parts (inside 1 bs)) ++ closing 1 bs) (inside 1 bs ++ closing 1 bs) refl
      (same_parts (flat_map (changed_part mode) (special_parts (inside 1 bs))) (inside 1 bs) (closing 1 bs) (closing 1 bs) (same_special (inside 1 bs)) refl)) in
      let behind = reverse (spelling (Special (inside 1 bs) (closing 1 bs))) ++ before in
      let later : view (changed_pieces mode behind (pieces_after 0 0 (beyond 1 bs))) ≡ view (beyond 1 bs) = rw (special_level level (b ∷ bs) e) at (rest behind) in
      rw (e, pieces_beyond 1 bs (omega arith), brace)
      (same_parts _ (123 ∷ inside 1 bs ++ closing 1 bs) _ (beyond 1 bs) here later ∙ ap (λ xs. view (123 ∷ xs)) (special_whole 1 bs)))

-- ---- no byte is moved, put or lost but letters, `\` and white space

filter_joins : (test : ℕ → Bool) (xs ys : List ℕ) → filter test (xs ++ ys) ≡ filter test xs ++ filter test ys
filter_joins test [] ys = refl
filter_joins test (x ∷ xs) ys = elim (test x) as (λ v. cond v (x ∷ filter test (xs ++ ys)) (filter test (xs ++ ys)) ≡ cond v (x ∷ filter test xs) (filter test xs) ++ filter test ys) [
  | true ↦ ap (λ zs. x ∷ zs) (filter_joins test xs ys)
  | false ↦ filter_joins test xs ys
]

unfixed_letter : (b : ℕ) → is_ascii_letter b ≡ true → is_fixed b ≡ false
unfixed_letter b h = rw h refl

letter_changed : (mode : Case) (b : ℕ) → is_ascii_letter b ≡ true → is_ascii_letter (changed_byte mode b) ≡ true
letter_changed _ b h = grind (arith, nat_tests)

other_changed : (mode : Case) (b : ℕ) → is_ascii_letter b ≡ false → changed_byte mode b ≡ b
other_changed _ b h = grind (arith, nat_tests)

fixed_byte : (mode : Case) (b : ℕ) → filter is_fixed (changed_byte mode b ∷ []) ≡ filter is_fixed (b ∷ [])
fixed_byte mode b =
    let M : Bool → Type 0 = λ v. is_ascii_letter b ≡ v → filter is_fixed (changed_byte mode b ∷ []) ≡ filter is_fixed (b ∷ []) in
    (elim (is_ascii_letter b) as M [
      | true ↦ λ e. rw (e, letter_changed mode b e) refl
      | false ↦ λ e. ap (λ c. filter is_fixed (c ∷ [])) (other_changed mode b e)
    ]) refl

-- letters alone, and white space alone, leave nothing
unfixed_run : (test : ℕ → Bool) → ((b : ℕ) → test b ≡ true → is_fixed b ≡ false) → (bs : List ℕ) → filter is_fixed (run test bs) ≡ []
unfixed_run test unfixed [] = refl
unfixed_run test unfixed (b ∷ bs) =
    let M : Bool → Type 0 = λ v. test b ≡ v → filter is_fixed (if v then b ∷ run test bs else []) ≡ [] in
    (elim (test b) as M [ true ↦ λ e. rw (unfixed b e) (unfixed_run test unfixed bs) | false ↦ λ e. refl ]) refl

unfixed_white : (b : ℕ) → is_white b ≡ true → is_fixed b ≡ false
unfixed_white b h = grind (arith, nat_tests)

unfixed_changed : (mode : Case) (bs : List ℕ) → filter is_fixed (changed_letters mode (word_letters bs)) ≡ []
unfixed_changed mode [] = refl
unfixed_changed mode (b ∷ bs) =
    let M : Bool → Type 0 = λ v. is_ascii_letter b ≡ v → filter is_fixed (changed_letters mode (if v then b ∷ word_letters bs else [])) ≡ [] in
    (elim (is_ascii_letter b) as M [ true ↦ λ e. rw (unfixed_letter (changed_byte mode b) (letter_changed mode b e)) (unfixed_changed mode bs) | false ↦ λ e. refl ]) refl

nothing : (xs ys : List ℕ) → filter is_fixed xs ≡ [] → filter is_fixed ys ≡ [] → filter is_fixed (xs ++ ys) ≡ []
nothing xs ys e f = rw (filter_joins is_fixed xs ys, e, f) refl

unfixed_word : (mode : Case) (bs : List ℕ) → filter is_fixed (changed_word mode (word_letters bs) (word_space bs)) ≡ []
unfixed_word mode bs =
    let letters : filter is_fixed (word_letters bs) ≡ [] = unfixed_run is_ascii_letter unfixed_letter bs in
    let space : filter is_fixed (word_space bs) ≡ [] = unfixed_run is_white unfixed_white (drop (length (word_letters bs)) bs) in
    let M : Bool → Type 0 = λ v. filter is_fixed (if v then changed_letters mode (word_letters bs) else word_letters bs) ≡ [] in
    let word : filter is_fixed (if has_case mode (word_letters bs) then changed_letters mode (word_letters bs) else word_letters bs) ≡ []
    = elim (has_case mode (word_letters bs)) as M [ true ↦ unfixed_changed mode bs | false ↦ letters ] in
    elim (becomes_bare mode (word_letters bs)) as (λ v. filter is_fixed (if v then changed_letters mode (word_letters bs) else 92 ∷ (if has_case mode (word_letters bs) then changed_letters mode (word_letters bs) else word_letters bs) ++ word_space bs) ≡ []) [
      | true ↦ unfixed_changed mode bs
      | false ↦ nothing (if has_case mode (word_letters bs) then changed_letters mode (word_letters bs) else word_letters bs) (word_space bs) word space
    ]

fixed_word : (mode : Case) (bs : List ℕ) → filter is_fixed (changed_word mode (word_letters bs) (word_space bs)) ≡ filter is_fixed (92 ∷ word_letters bs ++ word_space bs)
fixed_word mode bs =
    unfixed_word mode bs ∙ sym (nothing (word_letters bs) (word_space bs) (unfixed_run is_ascii_letter unfixed_letter bs) (unfixed_run is_white unfixed_white (drop (length (word_letters bs)) bs)))

pub fixed_kept : (mode : Case) (text : List ℕ) → filter is_fixed (case_changed mode text) ≡ filter is_fixed text
fixed_kept mode text = same_pieces mode (filter is_fixed) (filter_joins is_fixed) (fixed_byte mode) (fixed_word mode) 0 text []

-- ---- `l` and `t` change the case of letters alone

pub lower_twice : (b : ℕ) → lower (lower b) ≡ lower b
lower_twice b = grind (arith, nat_tests)

pub lowered_letters : (letters : List ℕ) → map lower (map lower letters) ≡ map lower letters
lowered_letters [] = refl
lowered_letters (b ∷ bs) = rw (lower_twice b, lowered_letters bs) refl

lowered_word : (letters space : List ℕ) → map lower (92 ∷ (if is_foreign letters then map lower letters else letters) ++ space) ≡ map lower (92 ∷ letters ++ space)
lowered_word letters space =
    elim (is_foreign letters) as (λ v. map lower (92 ∷ (if v then map lower letters else letters) ++ space) ≡ map lower (92 ∷ letters ++ space)) [
      | true ↦ rw (map-append lower (map lower letters) space, map-append lower letters space, lowered_letters letters) refl
      | false ↦ refl
    ]

pub lower_kept : (text : List ℕ) → map lower (case_changed Lower text) ≡ map lower text
lower_kept text = same_pieces Lower (map lower) (map-append lower) (λ b. ap (λ c. c ∷ []) (lower_twice b)) (λ bs. lowered_word (word_letters bs) (word_space bs)) 0 text []

pub title_kept : (text : List ℕ) → map lower (case_changed Title text) ≡ map lower text
title_kept text = same_pieces Title (map lower) (map-append lower) (λ b. ap (λ c. c ∷ []) (lower_twice b)) (λ bs. lowered_word (word_letters bs) (word_space bs)) 0 text []
