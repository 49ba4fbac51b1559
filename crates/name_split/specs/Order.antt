-- How stretches stand in a text (docs/NAMES.md, "Slices").
use Rattle.std.specs.Prelude.{ℕ, ◌≤◌, List, [], ◌∷◌}
use Rattle.name_split.specs.declared.spans.Parts.{Parts}
use Rattle.name_split.specs.declared.spans.Span.{Span}

-- a stretch stands within others' bounds
pub record IsWithin (from end : ℕ) (span : Span) : Type 0 where
  pub after : from ≤ span.start
  pub forward : span.start ≤ span.end
  pub before : span.end ≤ end

-- stretches in order and apart, from a byte of the text up to another
abbrev pub InOrder : ℕ → List Span → ℕ → Type 0
InOrder from [] end = Unit {0}
InOrder from (span ∷ spans) end = IsWithin from end span × InOrder span.end spans end

-- each part of a name stands in it
pub record AreWithin (end : ℕ) (spans : Parts) : Type 0 where
  pub first : IsWithin 0 end spans.first
  pub von : IsWithin 0 end spans.von
  pub last : IsWithin 0 end spans.last
  pub jr : IsWithin 0 end spans.jr
