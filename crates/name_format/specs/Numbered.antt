-- The names of a text by number (docs/NAMES.md, "Formatting").
use Rattle.std.specs.Prelude.{◌≡◌, ℕ, zero, suc, ℤ, pos, negsuc, List, Option, None, Some, Ok, slice_get}
use Rattle.name_split.specs.declared.spans.Parts.{Parts}
use Rattle.name_split.specs.declared.spans.Span.{Span}
use Rattle.name_split.specs.Names.{names_of}
use Rattle.name_split.specs.Parts.{parts_of}
use Rattle.name_split.specs.Spans.{slice}

-- the name with a number, counted from 1
abbrev pub span_at : List ℕ → ℤ → Option Span
span_at text (negsuc n) = None
span_at text (pos zero) = None
span_at text (pos (suc n)) = slice_get (names_of text) n

-- the name with a number, and its parts
pub record IsParted (text : List ℕ) (index : ℤ) (name : List ℕ) (parts : Parts) : Type 0 where
  pub span : Span
  pub numbered : span_at text index ≡ Some span
  pub named : name ≡ slice text span
  pub parted : parts_of name ≡ Ok parts
