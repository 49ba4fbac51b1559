-- An initial in braces.
use Rattle.std.proofs.Common.{◌≡◌, ℕ, suc, ◌+◌, Bool, true, false, cond, nat_eq, List, [], ◌∷◌, ◌++◌, length, take, refl, sym, ap, ◌∙◌, arith, eqb-true}
use Rattle.std.proofs.lemmas.Bool.{and_parts}
use Rattle.bv_base.specs.Levels.{closing, inside, is_closing, is_letter, next_level}
use Rattle.name_split.specs.Formatted.{initial}
use Rattle.name_split.specs.Tokens.{first_is}
use Rattle.name_format.specs.Steps.{begins_word}

closed_case : (closes : Bool) (level b : ℕ) (bytes : List ℕ) → is_closing level b ≡ closes
    → inside (next_level level b) bytes ++ closing (next_level level b) bytes ≡ take (length (inside (next_level level b) bytes) + 1) bytes
    → inside level (b ∷ bytes) ++ closing level (b ∷ bytes) ≡ take (length (inside level (b ∷ bytes)) + 1) (b ∷ bytes)
closed_case true level b bytes e h = rw e refl
closed_case false level b bytes e h =
    rw e (ap (λ xs. b ∷ xs) h
    ∙ ap (λ n. take n (b ∷ bytes)) {x = suc (length (inside (next_level level b) bytes) + 1)} {y = suc (length (inside (next_level level b) bytes)) + 1} (omega arith))

-- what stands within braces, with the brace that closes them
closed : (level : ℕ) (bytes : List ℕ) → inside level bytes ++ closing level bytes ≡ take (length (inside level bytes) + 1) bytes
closed level [] = refl
closed level (b ∷ bytes) = closed_case (is_closing level b) level b bytes refl (closed (next_level level b) bytes)

pub word_first : (b : ℕ) (bytes : List ℕ) → begins_word (b ∷ bytes) ≡ true
    → initial (b ∷ bytes) ≡ take (length (inside 1 bytes) + 2) (b ∷ bytes)
word_first b bytes e =
    ap (λ v. cond v (123 ∷ (inside 1 bytes ++ closing 1 bytes)) (cond (is_letter b) (b ∷ []) (initial bytes))) e
    ∙ ap (λ xs. 123 ∷ xs) (closed 1 bytes)
    ∙ ap (λ x. x ∷ take (length (inside 1 bytes) + 1) bytes) (sym (eqb-true b 123 (and_parts (nat_eq b 123) (first_is 92 bytes) e).0))
    ∙ ap (λ n. take n (b ∷ bytes)) {x = suc (length (inside 1 bytes) + 1)} {y = length (inside 1 bytes) + 2} (omega arith)
