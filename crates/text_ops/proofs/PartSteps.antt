-- What a reader that goes from the left meets of the parts of a special character.
use Rattle.std.proofs.Common.{◌≡◌, ◌∙◌, ℕ, zero, suc, ◌+◌, ◌<◌, ◌≤◌, List, [], ◌∷◌, ◌++◌, length, drop, get_or, refl, ap, arith, sym, Bool, true, false}
use Rattle.std.proofs.lemmas.List.{length-append, length-drop, drop-drop}
use Rattle.std.proofs.lemmas.Bool.Decides.{nat_tests}
use Rattle.bv_base.specs.Bytes.{is_white}
use Rattle.bv_base.specs.Levels.{next_level, is_brace, is_ascii_letter, is_closing, inside, closing, beyond, run, word_letters, word_space, ControlWord, parts_after, parts_by, special_parts}
use Rattle.text_ops.proofs.PieceSteps.{tail, tail_is}

pub no_brace_closing : (level b : ℕ) → is_brace b ≡ false → is_closing level b ≡ false
no_brace_closing level b h = grind (arith, nat_tests)

pub no_brace_level : (level b : ℕ) → is_brace b ≡ false → next_level level b ≡ level
no_brace_level level b h = grind (arith, nat_tests)

pub letter_no_brace : (b : ℕ) → is_ascii_letter b ≡ true → is_brace b ≡ false
letter_no_brace b h = grind (arith, nat_tests)

pub white_no_brace : (b : ℕ) → is_white b ≡ true → is_brace b ≡ false
white_no_brace b h = grind (arith, nat_tests)

module _ (test : ℕ → Bool) (no_brace : (b : ℕ) → test b ≡ true → is_brace b ≡ false) where
  -- a run of bytes that are no braces is the same within a special character
  pub run_inside : (level : ℕ) (bs : List ℕ) → run test (inside level bs) ≡ run test bs
  run_inside level [] = refl
  run_inside level (b ∷ bs) =
      let M : Bool → Type 0 = λ v. test b ≡ v → run test (inside level (b ∷ bs)) ≡ run test (b ∷ bs) in
      let N : Bool → Type 0 = λ v. is_closing level b ≡ v → test b ≡ false → run test (inside level (b ∷ bs)) ≡ run test (b ∷ bs) in
      (elim (test b) as M [
        | true ↦ λ e. rw (no_brace_closing level b (no_brace b e), no_brace_level level b (no_brace b e), e, run_inside level bs) refl
        | false ↦ (elim (is_closing level b) as N [ true ↦ λ k e. rw (k, e) refl | false ↦ λ k e. rw (k, e) refl ]) refl
      ]) refl

  pub drop_inside : (level : ℕ) (bs : List ℕ) → drop (length (run test bs)) (inside level bs) ≡ inside level (drop (length (run test bs)) bs)
  drop_inside level [] = refl
  drop_inside level (b ∷ bs) =
      let M : Bool → Type 0 = λ v. test b ≡ v → drop (length (run test (b ∷ bs))) (inside level (b ∷ bs)) ≡ inside level (drop (length (run test (b ∷ bs))) (b ∷ bs)) in
      (elim (test b) as M [
        | true ↦ λ e. rw (e, no_brace_closing level b (no_brace b e), no_brace_level level b (no_brace b e)) (drop_inside level bs)
        | false ↦ λ e. rw e refl
      ]) refl

  -- what a byte that is no brace leaves alone, a run of such bytes does
  run_passed : {X : Type 0} (f : ℕ → List ℕ → X) → ((level b : ℕ) (bs : List ℕ) → test b ≡ true → f level (b ∷ bs) ≡ f level bs)
      → (level : ℕ) (bs : List ℕ) → f level (drop (length (run test bs)) bs) ≡ f level bs
  run_passed f same level [] = refl
  run_passed f same level (b ∷ bs) =
      let M : Bool → Type 0 = λ v. test b ≡ v → f level (drop (length (run test (b ∷ bs))) (b ∷ bs)) ≡ f level (b ∷ bs) in
      (elim (test b) as M [ true ↦ λ e. rw (e, same level b bs e) (run_passed f same level bs) | false ↦ λ e. rw e refl ]) refl

  pub beyond_run : (level : ℕ) (bs : List ℕ) → beyond level (drop (length (run test bs)) bs) ≡ beyond level bs
  beyond_run = run_passed beyond (λ level b bs e. rw (no_brace_closing level b (no_brace b e), no_brace_level level b (no_brace b e)) refl)

  pub closing_run : (level : ℕ) (bs : List ℕ) → closing level (drop (length (run test bs)) bs) ≡ closing level bs
  closing_run = run_passed closing (λ level b bs e. rw (no_brace_closing level b (no_brace b e), no_brace_level level b (no_brace b e)) refl)

pub by_drop : (own space : List ℕ → List ℕ) (n : ℕ) (bs : List ℕ) → parts_by own space n bs ≡ parts_by own space 0 (drop n bs)
by_drop own space zero bs = refl
by_drop own space (suc n) [] = refl
by_drop own space (suc n) (b ∷ bs) = by_drop own space n bs

pub parts_drop : (n : ℕ) (bs : List ℕ) → parts_after n bs ≡ parts_after 0 (drop n bs)
parts_drop = by_drop word_letters word_space

-- how many bytes belong to the control word whose `\` stands before these
abbrev pub word_length : List ℕ → ℕ
word_length bs = length (word_letters bs ++ word_space bs)

pub drop_word : (bs xs : List ℕ) → drop (word_length bs) xs ≡ drop (length (word_space bs)) (drop (length (word_letters bs)) xs)
drop_word bs xs = rw (length-append (word_letters bs) (word_space bs)) (sym (drop-drop (length (word_space bs)) (length (word_letters bs)) xs))

pub letters_inside : (level : ℕ) (bs : List ℕ) → word_letters (inside level bs) ≡ word_letters bs
letters_inside = run_inside is_ascii_letter letter_no_brace

pub space_inside : (level : ℕ) (bs : List ℕ) → word_space (inside level bs) ≡ word_space bs
space_inside level bs =
    rw (letters_inside level bs, drop_inside is_ascii_letter letter_no_brace level bs) (run_inside is_white white_no_brace level (drop (length (word_letters bs)) bs))

pub word_inside : (level : ℕ) (bs : List ℕ) → drop (word_length bs) (inside level bs) ≡ inside level (drop (word_length bs) bs)
word_inside level bs =
    rw (drop_word bs (inside level bs), drop_word bs bs, drop_inside is_ascii_letter letter_no_brace level bs)
    (drop_inside is_white white_no_brace level (drop (length (word_letters bs)) bs))

pub word_after : (level : ℕ) (bs : List ℕ) → beyond level (drop (word_length bs) bs) ≡ beyond level bs
word_after level bs =
    rw (drop_word bs bs) (beyond_run is_white white_no_brace level (drop (length (word_letters bs)) bs) ∙ beyond_run is_ascii_letter letter_no_brace level bs)

pub same_word : (letters letters' space space' xs : List ℕ) → letters ≡ letters' → space ≡ space'
    → ControlWord letters space ∷ parts_after (length (letters ++ space)) xs ≡ ControlWord letters' space' ∷ parts_after (length (letters' ++ space')) xs
same_word letters letters' space space' xs e f = cc

pub word_part : (level : ℕ) (text : List ℕ) → 0 < length text → get_or text 0 0 ≡ 92
    → special_parts (inside level text) ≡ ControlWord (word_letters (tail text)) (word_space (tail text)) ∷ special_parts (inside level (drop (word_length (tail text)) (tail text)))
word_part level [] h e = absurd (omega arith)
word_part level (b ∷ bs) h e =
    let later : parts_after (word_length bs) (inside level bs) ≡ special_parts (inside level (drop (word_length bs) bs)) = parts_drop (word_length bs) (inside level bs) ∙ ap (parts_after 0) (word_inside level bs) in
    rw (tail_is (b ∷ bs), e)
    (same_word _ (word_letters bs) _ (word_space bs) (inside level bs) (letters_inside level bs) (space_inside level bs) ∙ ap (λ ps. ControlWord (word_letters bs) (word_space bs) ∷ ps) later)

pub word_beyond : (level : ℕ) (text : List ℕ) → 0 < length text → get_or text 0 0 ≡ 92 → beyond level (drop (word_length (tail text)) (tail text)) ≡ beyond level text
word_beyond level [] h e = absurd (omega arith)
word_beyond level (b ∷ bs) h e = rw (tail_is (b ∷ bs), e) (word_after level bs)

pub word_closing : (level : ℕ) (text : List ℕ) → 0 < length text → get_or text 0 0 ≡ 92 → closing level (drop (word_length (tail text)) (tail text)) ≡ closing level text
word_closing level [] h e = absurd (omega arith)
word_closing level (b ∷ bs) h e =
    rw (tail_is (b ∷ bs), e, drop_word bs bs)
    (closing_run is_white white_no_brace level (drop (length (word_letters bs)) bs) ∙ closing_run is_ascii_letter letter_no_brace level bs)

pub word_bound : (text : List ℕ) → 0 < length text → length (drop (word_length (tail text)) (tail text)) + 1 ≤ length text
word_bound [] h = absurd (omega arith)
word_bound (b ∷ bs) h = rw (tail_is (b ∷ bs), length-drop (word_length bs) bs) (omega arith)
