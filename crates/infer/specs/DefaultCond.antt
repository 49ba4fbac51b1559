-- The condition under which a style is analysed where none is given (docs/ANALYSER.md, "The default condition").
use Rattle.std.specs.Prelude.{ℕ, suc, Bool, true, false, ◌||◌, if◌then◌else◌, List, [], ◌∷◌, ◌++◌, codes, filter, is_some, nat_eq}
use Rattle.std.specs.Cmp.Lexicographic.{pointwise}
use Rattle.name_table.specs.TypeTarget.{type_function}
use Rattle.name_table.specs.declared.names.Kind.{Kind}
use Rattle.name_table.specs.declared.names.Kind.TheVariants.{Field}
use Rattle.name_table.specs.declared.style.Style.{Style}
use Rattle.bst_meaning.specs.declared.condition.Cond.{Cond}
use Rattle.bst_meaning.specs.declared.condition.NamesLine.{NamesLine}

-- the types of the standard styles, upwards by their bytes
abbrev pub standard_types : List (List ℕ)
standard_types =
    codes "article" ∷ codes "book" ∷ codes "booklet" ∷ codes "conference" ∷ codes "inbook" ∷ codes "incollection"
    ∷ codes "inproceedings" ∷ codes "manual" ∷ codes "mastersthesis" ∷ codes "misc" ∷ codes "phdthesis" ∷ codes "proceedings"
    ∷ codes "techreport" ∷ codes "unpublished" ∷ []

-- those of them that the style defines before READ
abbrev pub defined_types : Style → List (List ℕ) → List (List ℕ)
defined_types style names = filter (λ name. is_some (type_function name style)) names

-- a name is `author` or `editor`
abbrev pub holds_names : List ℕ → Bool
holds_names name = pointwise nat_eq name (codes "author") || pointwise nat_eq name (codes "editor")

-- a field
abbrev pub is_field : Kind → Bool
is_field Field = true
is_field _ = false

-- the line for the name of an id: a field that holds names has at most 1000
abbrev pub names_line : ℕ → List ℕ → Kind → List NamesLine
names_line id name Field = if holds_names name then record { field = record { 0 = id }; most = 1000 } ∷ [] else []
names_line id name _ = []

-- the lines for the names of a style, in the order of their ids, which are numbered from here
abbrev pub names_lines : ℕ → List (List ℕ × Kind) → List NamesLine
names_lines id [] = []
names_lines id (entry ∷ names) = names_line id entry.0 entry.1 ++ names_lines (suc id) names

-- the default condition
abbrev pub default_cond : Style → Cond
default_cond style = record {
  entries = 10000;
  key = 250;
  preamble = 20000;
  length = 10000;
  names = names_lines 0 style.names;
  nonblank = [];
  types = defined_types style standard_types;
  other = true;
}
