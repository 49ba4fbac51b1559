-- What a reader that goes from the left meets of the pieces of a text.
use Rattle.std.proofs.Common.{◌≡◌, ℕ, ◌+◌, ◌<◌, ◌≤◌, List, [], ◌∷◌, ◌++◌, length, take, drop, get_or, refl, arith, append_assoc, length-drop, ◌-◌, Bool, true, false}
use Rattle.std.proofs.lemmas.List.{take_all}
use Rattle.std.proofs.lemmas.Bool.Decides.{nat_tests}
use Rattle.text_ops.proofs.LevelSteps.{next_level_bound}
use Rattle.bv_base.specs.Levels.{next_level, level_after, is_closing, inside, closing, beyond, begins_special, Plain, Special, pieces_after}

pub closing_level : (level b : ℕ) → is_closing level b ≡ true → next_level level b ≡ 0
closing_level level b h = grind (arith, nat_tests)

pub open_level : (level b : ℕ) → is_closing level b ≡ false → 1 ≤ level → 1 ≤ next_level level b
open_level level b h k = grind (arith, nat_tests)

-- the pieces behind a special character are those of what follows it, at level 0
pub pieces_beyond : (level : ℕ) (bs : List ℕ) → 1 ≤ level → pieces_after (length (inside level bs ++ closing level bs)) level bs ≡ pieces_after 0 0 (beyond level bs)
pieces_beyond level [] h = refl
pieces_beyond level (b ∷ bs) h =
    let M : Bool → Type 0 = λ v. is_closing level b ≡ v → pieces_after (length (inside level (b ∷ bs) ++ closing level (b ∷ bs))) level (b ∷ bs) ≡ pieces_after 0 0 (beyond level (b ∷ bs)) in
    (elim (is_closing level b) as M [
      | true ↦ λ e. rw (e, closing_level level b e) refl
      | false ↦ λ e. rw e (pieces_beyond (next_level level b) bs (open_level level b e h))
    ]) refl

pub special_level : (level : ℕ) (text : List ℕ) → begins_special level text ≡ true → level ≡ 0
special_level level [] h = absurd (cc)
special_level level (a ∷ []) h = absurd (cc)
special_level level (a ∷ b ∷ bs) h = grind (arith, nat_tests)

pub beyond_bound : (level : ℕ) (bs : List ℕ) → length (beyond level bs) ≤ length bs
beyond_bound level bs = simp length-drop (omega arith)

-- the rest of a slice behind its first byte, as a pattern of a slice gives it
abbrev pub tail : List ℕ → List ℕ
tail text = take (length text - 1) (drop 1 text)

pub tail_is : (text : List ℕ) → tail text ≡ drop 1 text
tail_is text = take_all (length text - 1) (drop 1 text) (simp length-drop (omega arith))

pub special_piece : (level : ℕ) (text : List ℕ) → begins_special level text ≡ true → pieces_after 0 level text ≡ Special (inside 1 (tail text)) (closing 1 (tail text)) ∷ pieces_after 0 level (beyond 1 (tail text))
special_piece level [] h = absurd (cc)
special_piece level (b ∷ bs) h = rw (tail_is (b ∷ bs), h, pieces_beyond 1 bs (omega arith), special_level level (b ∷ bs) h) refl

pub special_bound : (level : ℕ) (text : List ℕ) → begins_special level text ≡ true → length (beyond 1 (tail text)) + 1 ≤ length text
special_bound level [] h = absurd (cc)
special_bound level (b ∷ bs) h = rw (tail_is (b ∷ bs)) (grind (arith, beyond_bound 1 bs))

pub plain_piece : (level : ℕ) (text : List ℕ) → begins_special level text ≡ false → 0 < length text → pieces_after 0 level text ≡ Plain level (get_or text 0 0) ∷ pieces_after 0 (next_level level (get_or text 0 0)) (tail text)
plain_piece level [] h k = absurd (omega arith)
plain_piece level (b ∷ bs) h k = rw (tail_is (b ∷ bs), h) refl

-- a level that stays open behind a special character stays so up to the text's end
pub unclosed_pieces : (level : ℕ) (bs : List ℕ) → 1 ≤ level → pieces_after 0 (level_after level (inside level bs ++ closing level bs)) (beyond level bs) ≡ pieces_after 0 0 (beyond level bs)
unclosed_pieces level [] h = refl
unclosed_pieces level (b ∷ bs) h =
    let M : Bool → Type 0 = λ v. is_closing level b ≡ v → pieces_after 0 (level_after level (inside level (b ∷ bs) ++ closing level (b ∷ bs))) (beyond level (b ∷ bs)) ≡ pieces_after 0 0 (beyond level (b ∷ bs)) in
    (elim (is_closing level b) as M [
      | true ↦ λ e. rw (e, closing_level level b e) refl
      | false ↦ λ e. rw e (unclosed_pieces (next_level level b) bs (open_level level b e h))
    ]) refl

pub unclosed_bound : (level : ℕ) (bs : List ℕ) → level_after level (inside level bs ++ closing level bs) + length (beyond level bs) ≤ level + length bs
unclosed_bound level [] = omega arith
unclosed_bound level (b ∷ bs) =
    let M : Bool → Type 0 = λ v. is_closing level b ≡ v → level_after level (inside level (b ∷ bs) ++ closing level (b ∷ bs)) + length (beyond level (b ∷ bs)) ≤ level + length (b ∷ bs) in
    (elim (is_closing level b) as M [
      | true ↦ λ e. rw e (omega (arith, next_level_bound level b))
      | false ↦ λ e. rw e (omega (arith, next_level_bound level b, unclosed_bound (next_level level b) bs))
    ]) refl

-- the same at the first brace of a special character
pub unclosed_special : (level : ℕ) (text : List ℕ) → begins_special level text ≡ true → pieces_after 0 level text ≡ Special (inside 1 (tail text)) (closing 1 (tail text)) ∷ pieces_after 0 (level_after 1 (inside 1 (tail text) ++ closing 1 (tail text))) (beyond 1 (tail text))
unclosed_special level [] h = absurd (cc)
unclosed_special level (b ∷ bs) h = rw (tail_is (b ∷ bs), h, pieces_beyond 1 bs (omega arith), ← unclosed_pieces 1 bs (omega arith)) refl

pub unclosed_special_bound : (level : ℕ) (text : List ℕ) → begins_special level text ≡ true → level_after 1 (inside 1 (tail text) ++ closing 1 (tail text)) + length (beyond 1 (tail text)) ≤ length text
unclosed_special_bound level [] h = absurd (cc)
unclosed_special_bound level (b ∷ bs) h = rw (tail_is (b ∷ bs)) (omega (arith, unclosed_bound 1 bs))

-- what has been put out before, with what one more step puts out
pub put_byte : (before after whole rest all : List ℕ) (b : ℕ) → after ≡ before ++ b ∷ [] → before ++ whole ≡ all → whole ≡ b ∷ rest → after ++ rest ≡ all
put_byte before after whole rest all b put so_far step = rw (put, append_assoc, ← step) so_far

pub put_bytes : (before after whole rest all bytes : List ℕ) → after ≡ before ++ bytes → before ++ whole ≡ all → whole ≡ bytes ++ rest → after ++ rest ≡ all
put_bytes before after whole rest all bytes put so_far step = rw (put, append_assoc, ← step) so_far

pub put_special : (before after whole rest all body : List ℕ) (b : ℕ) → after ≡ (before ++ b ∷ []) ++ body → before ++ whole ≡ all → whole ≡ b ∷ (body ++ rest) → after ++ rest ≡ all
put_special before after whole rest all body b put so_far step = rw (put, append_assoc (before ++ b ∷ []) body rest, append_assoc, ← step) so_far

pub tail_length : (text : List ℕ) → 0 < length text → length (tail text) + 1 ≡ length text
tail_length [] h = absurd (omega arith)
tail_length (b ∷ bs) h = rw (tail_is (b ∷ bs)) (omega arith)
