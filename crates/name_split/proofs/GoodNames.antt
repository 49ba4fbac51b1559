-- A name of a text whose names all have parts is never refused for its parts.
use Rattle.std.proofs.Common.{◌≡◌, ℕ, zero, suc, Bool, true, false, cond, List, [], ◌∷◌, Result, Ok, Err}
use Rattle.std.specs.Prelude.{ℤ, pos, negsuc, slice_get, is_ok}
use Rattle.std.proofs.lemmas.Bool.{and_parts}
use Rattle.name_split.specs.declared.parts.NameFault.{NameFault}
use Rattle.name_split.specs.declared.spans.Parts.{Parts}
use Rattle.name_split.specs.declared.spans.Span.{Span}
use Rattle.name_split.specs.AllParts.{all_have_parts, names_ok}
use Rattle.name_split.specs.Formatted.{BadName, BadPattern, formatted, span_written, name_written, pattern_written}
use Rattle.name_split.specs.Names.{names_of}
use Rattle.name_split.specs.Parts.{parts_of}
use Rattle.name_split.specs.Patterns.{pattern_ok}
use Rattle.name_split.specs.Spans.{slice}

-- a pattern that isn't well formed is another reason
not_its_pattern : (well : Bool) (written : List ℕ) → cond well (Ok written) (Err BadPattern) ≡ Err BadName → ⊥
not_its_pattern true written e = cc
not_its_pattern false written e = cc

-- a name that has parts
has_parts : (name : List ℕ) (parts : Result Parts NameFault) (pattern : List ℕ) → is_ok parts ≡ true → name_written name parts pattern ≡ Err BadName → ⊥
has_parts name (Err fault) pattern ok e = cc
has_parts name (Ok parts) pattern ok e = not_its_pattern (pattern_ok pattern) (pattern_written name parts zero pattern) e

-- one of the names
one_of : (text : List ℕ) (spans : List Span) (n : ℕ) (pattern : List ℕ) → all_have_parts text spans ≡ true
    → span_written text (slice_get spans n) pattern ≡ Err BadName → ⊥
one_of text [] n pattern all e = cc
one_of text (span ∷ spans) zero pattern all e = has_parts (slice text span) (parts_of (slice text span)) pattern (and_parts _ _ all).0 e
one_of text (span ∷ spans) (suc n) pattern all e = one_of text spans n pattern (and_parts _ _ all).1 e

pub good_names : (text pattern : List ℕ) (index : ℤ) → names_ok text ≡ true → formatted text index pattern ≡ Err BadName → ⊥
good_names text pattern (negsuc n) ok e = cc
good_names text pattern (pos zero) ok e = cc
good_names text pattern (pos (suc n)) ok e = one_of text (names_of text) n pattern ok e
