-- Texts whose names all have parts (docs/NAMES.md, "Parts").
use Rattle.std.specs.Prelude.{ℕ, Bool, true, ◌&&◌, List, [], ◌∷◌, is_ok}
use Rattle.name_split.specs.declared.spans.Span.{Span}
use Rattle.name_split.specs.Names.{names_of}
use Rattle.name_split.specs.Parts.{parts_of}
use Rattle.name_split.specs.Spans.{slice}

-- each of these stretches of a text has parts
abbrev pub all_have_parts : List ℕ → List Span → Bool
all_have_parts text [] = true
all_have_parts text (span ∷ spans) = is_ok (parts_of (slice text span)) && all_have_parts text spans

-- each name of a text has parts
abbrev pub names_ok : List ℕ → Bool
names_ok text = all_have_parts text (names_of text)
