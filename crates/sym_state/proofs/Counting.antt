-- How many names a string has.
use Rattle.std.proofs.Common.{◌≡◌, ℕ, suc, ◌+◌, ◌≤◌, Bool, true, false, cond, ap, ◌∙◌, refl, List, [], ◌∷◌, length, arith}
use Rattle.bv_base.specs.Bytes.{is_white}
use Rattle.bv_base.specs.Levels.{next_level}
use Rattle.name_split.specs.declared.spans.Span.{Span}
use Rattle.name_split.specs.Names.{names_of, between, trimmed_all, separators, begins_separator}

trimmed_all-length : (text : List ℕ) (spans : List Span) → length (trimmed_all text spans) ≡ length spans
trimmed_all-length text [] = refl
trimmed_all-length text (span ∷ spans) = ap (λ (n : ℕ). suc n) (trimmed_all-length text spans)

between-length : (from : ℕ) (ats : List ℕ) (end : ℕ) → length (between from ats end) ≡ suc (length ats)
between-length from [] end = refl
between-length from (at ∷ ats) end = ap (λ (n : ℕ). suc n) (between-length (at + 3) ats end)

separators-few : (at level : ℕ) (w : Bool) (bytes : List ℕ) → length (separators at level w bytes) ≤ length bytes
separators-few at level w [] = omega arith
separators-few at level w (b ∷ bytes) =
    let more = separators (at + 1) (next_level level b) (is_white b) bytes in
    let few : length more ≤ length bytes = separators-few (at + 1) (next_level level b) (is_white b) bytes in
    elim (begins_separator level w (b ∷ bytes)) as (λ t. length (cond t (at ∷ more) more) ≤ suc (length bytes)) [
      | true ↦ omega arith
      | false ↦ omega arith
    ]

-- no separator stands first in a text
first_apart : (b : ℕ) (bytes : List ℕ) → separators 0 0 false (b ∷ bytes) ≡ separators 1 (next_level 0 b) (is_white b) bytes
first_apart b bytes = refl

names-length : (b : ℕ) (bytes : List ℕ) → length (names_of (b ∷ bytes)) ≡ suc (length (separators 0 0 false (b ∷ bytes)))
names-length b bytes =
    trimmed_all-length (b ∷ bytes) (between 0 (separators 0 0 false (b ∷ bytes)) (length (b ∷ bytes)))
    ∙ between-length 0 (separators 0 0 false (b ∷ bytes)) (length (b ∷ bytes))

-- a string has no more names than bytes
pub names_at_most : (bytes : List ℕ) → length (names_of bytes) ≤ length bytes
names_at_most [] = omega arith
names_at_most (b ∷ bytes) =
    let count = names-length b bytes in
    let few = separators-few 1 (next_level 0 b) (is_white b) bytes in
    omega arith

-- a string with a byte has a name
pub names_at_least : (bytes : List ℕ) → 1 ≤ length bytes → 1 ≤ length (names_of bytes)
names_at_least [] h = absurd (omega arith)
names_at_least (b ∷ bytes) h = let count = names-length b bytes in omega arith
