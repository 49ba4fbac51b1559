-- How levels go on along a text.
use Rattle.std.proofs.Common.{◌≡◌, ◌∙◌, ℕ, ◌+◌, ◌<◌, ◌≤◌, List, [], ◌∷◌, ◌++◌, length, take, get_or, refl, ap, arith, sym, drop, drop-cons, add-one, append_assoc, false}
use Rattle.std.proofs.lemmas.Grind.{take_at_read}
use Rattle.bv_base.specs.Levels.{next_level, level_after, is_closing, inside, closing}

pub level_after_append : (level : ℕ) (xs ys : List ℕ) → level_after level (xs ++ ys) ≡ level_after (level_after level xs) ys
level_after_append level [] ys = refl
level_after_append level (x ∷ xs) ys = level_after_append (next_level level x) xs ys

pub level_after_take : (level : ℕ) (text : List ℕ) (i : ℕ) → i < length text → level_after level (take (i + 1) text) ≡ next_level (level_after level (take i text)) (get_or text i 0)
level_after_take level text i h =
    ap (level_after level) (take_at_read text i 0 h).1 ∙ level_after_append level (take i text) (get_or text i 0 ∷ [])

pub next_level_bound : (level b : ℕ) → next_level level b ≤ level + 1
next_level_bound level b = grind arith

-- a byte that does not close a special character belongs to it
pub special_step : (level b : ℕ) (bs : List ℕ) → is_closing level b ≡ false → inside level (b ∷ bs) ++ closing level (b ∷ bs) ≡ b ∷ (inside (next_level level b) bs ++ closing (next_level level b) bs)
special_step level b bs within = rw within refl

pub special_take : (level : ℕ) (text : List ℕ) (i : ℕ) → i < length text → is_closing level (get_or text i 0) ≡ false
    → take i text ++ (inside level (drop i text) ++ closing level (drop i text)) ≡ take (i + 1) text ++ (inside (next_level level (get_or text i 0)) (drop (i + 1) text) ++ closing (next_level level (get_or text i 0)) (drop (i + 1) text))
special_take level text i h within =
    let cut : drop i text ≡ get_or text i 0 ∷ drop (i + 1) text = rw add-one (drop-cons text i 0 h) in
    rw (cut, special_step level (get_or text i 0) (drop (i + 1) text) within, (take_at_read text i 0 h).1) (sym (append_assoc (take i text) (get_or text i 0 ∷ []) _))
