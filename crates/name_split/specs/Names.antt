-- The names of a text: what stands between the separators (docs/NAMES.md, "Names of a text").
use Rattle.std.specs.Prelude.{ℕ, ◌+◌, Bool, false, ◌&&◌, nat_eq, if◌then◌else◌, List, [], ◌∷◌, length}
use Rattle.bv_base.specs.Bytes.{is_white, lower}
use Rattle.bv_base.specs.Levels.{next_level}
use Rattle.name_split.specs.declared.spans.Span.{Span}
use Rattle.name_split.specs.Spans.{slice, trimmed}

-- `and` in any case, with white space directly after it
abbrev pub begins_and : List ℕ → Bool
begins_and (a ∷ n ∷ d ∷ w ∷ bytes) = nat_eq (lower a) 97 && nat_eq (lower n) 110 && nat_eq (lower d) 100 && is_white w
begins_and bytes = false

-- a separator is such an `and` at level 0 with white space directly before it
abbrev pub begins_separator : ℕ → Bool → List ℕ → Bool
begins_separator level after_white bytes = nat_eq level 0 && after_white && begins_and bytes

-- the starts of the separators, where the first byte is the byte `at` of the text and has this level, and stands
-- after white space or not
abbrev pub separators : ℕ → ℕ → Bool → List ℕ → List ℕ
separators at level after_white [] = []
separators at level after_white (b ∷ bytes) =
    let more = separators (at + 1) (next_level level b) (is_white b) bytes in
    if begins_separator level after_white (b ∷ bytes) then at ∷ more else more

-- the stretches between separators, from a byte of the text on
abbrev pub between : ℕ → List ℕ → ℕ → List Span
between from [] end = record { start = from; end = end } ∷ []
between from (at ∷ more) end = record { start = from; end = at } ∷ between (at + 3) more end

-- stretches of a text without the white space at their ends
abbrev pub trimmed_all : List ℕ → List Span → List Span
trimmed_all text [] = []
trimmed_all text (span ∷ spans) = trimmed is_white text span ∷ trimmed_all text spans

-- the names of a text: none where it is empty, and else each stretch without white space at its ends
abbrev pub names_of : List ℕ → List Span
names_of [] = []
names_of (b ∷ bytes) =
    let text = b ∷ bytes in trimmed_all text (between 0 (separators 0 0 false text) (length text))

-- the names that are left of a text
pub record Names : Type 0 where
  pub text : List ℕ
  pub left : List Span

-- the slices of a text at these stretches
abbrev pub slices : List ℕ → List Span → List (List ℕ)
slices text [] = []
slices text (span ∷ spans) = slice text span ∷ slices text spans

-- the names that are left, as slices
abbrev pub slices_left : Names → List (List ℕ)
slices_left names = slices names.text names.left
