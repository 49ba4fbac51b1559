-- What a reader that goes from the left meets of the printed parts of a special character.
use Rattle.std.proofs.Common.{◌≡◌, ◌∙◌, ℕ, suc, ◌<◌, List, [], ◌∷◌, ◌++◌, length, drop, get_or, refl, ap, arith, sym, Bool, true, false, cond, nat_eq}
use Rattle.std.proofs.Math.Dec.{eqb-suc-zero}
use Rattle.bv_base.specs.Bytes.{is_white}
use Rattle.bv_base.specs.Levels.{next_level, is_ascii_letter, is_closing, inside, beyond, run, word_letters, word_space, ControlWord}
use Rattle.text_ops.specs.Width.{owned, owned_space, printed_after, printed_parts}
use Rattle.text_ops.proofs.PieceSteps.{tail, tail_is}
use Rattle.text_ops.proofs.PartSteps.{white_no_brace, letters_inside, space_inside, word_inside, word_length, run_inside, drop_inside, beyond_run, by_drop}

-- the bytes that a control word owns within a special character
abbrev pub word_owns : ℕ → List ℕ → ℕ
word_owns level bs = length (owned (inside level bs) ++ owned_space (inside level bs))

pub word_begins : (level : ℕ) (bs : List ℕ) → printed_parts (inside level (92 ∷ bs)) ≡ ControlWord (word_letters bs) (owned_space (inside level bs)) ∷ printed_after (word_owns level bs) (inside level bs)
word_begins level bs = ap (λ letters. ControlWord letters (owned_space (inside level bs)) ∷ printed_after (word_owns level bs) (inside level bs)) (letters_inside level bs)

-- a control word with letters
owned_letters : (bs : List ℕ) → nat_eq (length (word_letters bs)) 0 ≡ false → owned bs ≡ word_letters bs
owned_letters bs h = rw h refl

same_length : (letters letters' space space' : List ℕ) → letters ≡ letters' → space ≡ space' → length (letters ++ space) ≡ length (letters' ++ space')
same_length letters letters' space space' e f = cc

lettered_owns : (level : ℕ) (bs : List ℕ) → nat_eq (length (word_letters bs)) 0 ≡ false → word_owns level bs ≡ word_length bs
lettered_owns level bs h =
    let lettered : nat_eq (length (word_letters (inside level bs))) 0 ≡ false = ap (λ w. nat_eq (length w) 0) (letters_inside level bs) ∙ h in
    let mine : owned (inside level bs) ≡ word_letters (inside level bs) = owned_letters (inside level bs) lettered in
    let space : owned_space (inside level bs) ≡ word_space (inside level bs) = ap (λ w. run is_white (drop (length w) (inside level bs))) mine in
    same_length _ (word_letters bs) _ (word_space bs) (mine ∙ letters_inside level bs) (space ∙ space_inside level bs)

pub lettered_word : (level : ℕ) (bs : List ℕ) → nat_eq (length (word_letters bs)) 0 ≡ false
    → printed_parts (inside level (92 ∷ bs)) ≡ ControlWord (word_letters bs) (owned_space (inside level bs)) ∷ printed_parts (inside level (drop (word_length bs) bs))
lettered_word level bs h =
    let later : printed_after (word_owns level bs) (inside level bs) ≡ printed_parts (inside level (drop (word_length bs) bs))
    = ap (λ n. printed_after n (inside level bs)) (lettered_owns level bs h) ∙ (by_drop owned owned_space (word_length bs) (inside level bs) ∙ ap (printed_after 0) (word_inside level bs)) in
    word_begins level bs ∙ ap (λ ps. ControlWord (word_letters bs) (owned_space (inside level bs)) ∷ ps) later

-- a control word without letters
no_letter : (b : ℕ) (bs : List ℕ) → nat_eq (length (word_letters (b ∷ bs))) 0 ≡ true → is_ascii_letter b ≡ false
no_letter b bs h =
    let M : Bool → Type 0 = λ v. is_ascii_letter b ≡ v → is_ascii_letter b ≡ false in
    (elim (is_ascii_letter b) as M [
      | true ↦ λ e. let long : nat_eq (suc (length (word_letters bs))) 0 ≡ true = ap (λ v. nat_eq (length (cond v (b ∷ word_letters bs) [])) 0) (sym e) ∙ h in e ∙ (sym long ∙ eqb-suc-zero (length (word_letters bs)))
      | false ↦ λ e. e
    ]) refl

bare_owns : (b : ℕ) (bs : List ℕ) → is_ascii_letter b ≡ false → printed_after (length (owned (b ∷ bs) ++ owned_space (b ∷ bs))) (b ∷ bs) ≡ printed_after (length (run is_white bs)) bs
bare_owns b bs h = rw h refl

pub bare_word : (level : ℕ) (text : List ℕ) → 0 < length text → nat_eq (length (word_letters text)) 0 ≡ true → is_closing level (get_or text 0 0) ≡ false
    → printed_parts (inside level (92 ∷ text)) ≡ ControlWord (word_letters text) (owned_space (inside level text)) ∷ printed_parts (inside (next_level level (get_or text 0 0)) (drop (length (run is_white (tail text))) (tail text)))
bare_word level [] k h c = absurd (omega arith)
bare_word level (b ∷ bs) k h c =
    let inner = inside (next_level level b) bs in
    let begins : inside level (b ∷ bs) ≡ b ∷ inside (next_level level b) bs = rw c refl in
    let later : printed_after (word_owns level (b ∷ bs)) (inside level (b ∷ bs)) ≡ printed_parts (inside (next_level level b) (drop (length (run is_white bs)) bs))
    = ap (λ xs. printed_after (length (owned xs ++ owned_space xs)) xs) begins ∙ (bare_owns b (inside (next_level level b) bs) (no_letter b bs h)
    ∙ (ap (λ w. printed_after (length w) (inside (next_level level b) bs)) (run_inside is_white white_no_brace (next_level level b) bs)
    ∙ (by_drop owned owned_space (length (run is_white bs)) (inside (next_level level b) bs) ∙ ap (printed_after 0) (drop_inside is_white white_no_brace (next_level level b) bs)))) in
    rw (tail_is (b ∷ bs)) (word_begins level (b ∷ bs) ∙ ap (λ ps. ControlWord (word_letters (b ∷ bs)) (owned_space (inside level (b ∷ bs))) ∷ ps) later)

pub bare_beyond : (level : ℕ) (text : List ℕ) → 0 < length text → is_closing level (get_or text 0 0) ≡ false
    → beyond (next_level level (get_or text 0 0)) (drop (length (run is_white (tail text))) (tail text)) ≡ beyond level text
bare_beyond level [] k c = absurd (omega arith)
bare_beyond level (b ∷ bs) k c = rw (tail_is (b ∷ bs)) (beyond_run is_white white_no_brace (next_level level b) bs ∙ rw c refl)
