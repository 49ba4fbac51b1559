-- What follows a group of a pattern.
use Rattle.std.proofs.Common.{◌≡◌, ℕ, zero, suc, ◌+◌, ◌-◌, ◌<◌, true, cond, nat_eq, List, [], ◌∷◌, ◌++◌, length, take, drop, get_or, refl, sym, ap, ◌∙◌, arith, append_assoc, eq-eqb}
use Rattle.std.proofs.lemmas.List.{length-drop, take_all}
use Rattle.bv_base.specs.Levels.{inside}
use Rattle.name_split.specs.Formatted.{group_written, pattern_written}
use Rattle.name_split.specs.Patterns.{letter_runs}
use Rattle.name_split.specs.declared.spans.Parts.{Parts}
use Rattle.name_format.specs.Steps.{behind_brace}

-- the bytes that are passed over are gone
passed_over : (name : List ℕ) (parts : Parts) (passed : ℕ) (bytes : List ℕ)
    → pattern_written name parts passed bytes ≡ pattern_written name parts 0 (drop passed bytes)
passed_over name parts zero bytes = refl
passed_over name parts (suc passed) [] = refl
passed_over name parts (suc passed) (b ∷ bytes) = passed_over name parts passed bytes

-- the rest behind a first byte, as a pattern of a slice gives it
abbrev pub tail : List ℕ → List ℕ
tail rest = take (length rest - 1) (drop 1 rest)

pub tail_is : (rest : List ℕ) → tail rest ≡ drop 1 rest
tail_is rest = take_all (length rest - 1) (drop 1 rest) (simp length-drop (omega arith))

abbrev pub group_text : List ℕ → Parts → List ℕ → List ℕ
group_text name parts after = group_written name parts (inside 1 after) (letter_runs 1 (inside 1 after))

brace_step : (name : List ℕ) (parts : Parts) (b : ℕ) (bytes : List ℕ) → nat_eq b 123 ≡ true
    → pattern_written name parts 0 (b ∷ bytes) ≡ group_text name parts bytes ++ pattern_written name parts 0 (behind_brace bytes)
brace_step name parts b bytes e =
    ap (λ v. cond v (group_text name parts bytes ++ pattern_written name parts (length (inside 1 bytes) + 1) bytes) (b ∷ pattern_written name parts 0 bytes)) e
    ∙ ap (λ xs. group_text name parts bytes ++ xs) (passed_over name parts (length (inside 1 bytes) + 1) bytes)

-- a group, when so much was put out before
pub group_put : (name : List ℕ) (parts : Parts) (rest before after all : List ℕ) → 0 < length rest → get_or rest 0 0 ≡ 123
    → after ≡ before ++ group_text name parts (tail rest)
    → before ++ pattern_written name parts 0 rest ≡ all
    → after ++ pattern_written name parts 0 (behind_brace (tail rest)) ≡ all
group_put name parts [] before after all some first put so_far = absurd (omega arith)
group_put name parts (b ∷ bytes) before after all some first put so_far =
    rw (put, append_assoc, tail_is (b ∷ bytes))
    (ap (λ xs. before ++ xs) (sym (brace_step name parts b bytes (eq-eqb b 123 first))) ∙ so_far)
