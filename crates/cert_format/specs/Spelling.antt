-- How certificates and conditions are spelled, line by line as items (docs/CERTIFICATES.md, "Lines and items").
use Rattle.std.specs.Prelude.{ℕ, Bool, true, false, List, [], ◌∷◌, ◌++◌, map, codes}
use Rattle.std.specs.Fmt.{decimal}
use Rattle.std.specs.Option.{option_map_or}
use Rattle.bst_meaning.specs.declared.condition.Cond.{Cond}
use Rattle.bst_meaning.specs.declared.condition.NamesLine.{NamesLine}
use Rattle.name_table.specs.Names.{text_at}
use Rattle.name_table.specs.declared.names.Kind.{Kind}
use Rattle.name_table.specs.declared.names.NameId.{NameId}

-- what stands after an item: a space before each further item, and byte 10 at the end
abbrev pub after_item : List (List ℕ) → List ℕ
after_item [] = 10 ∷ []
after_item (item ∷ items) = 32 ∷ (item ++ after_item items)

-- the bytes of a line
abbrev pub line_text : List (List ℕ) → List ℕ
line_text [] = 10 ∷ []
line_text (item ∷ items) = item ++ after_item items

-- the bytes of lines
abbrev pub text_of : List (List (List ℕ)) → List ℕ
text_of [] = []
text_of (line ∷ lines) = line_text line ++ text_of lines

-- a name of the style
abbrev pub name_text : List (List ℕ × Kind) → NameId → List ℕ
name_text names id = option_map_or (λ text. text) (text_at id names) []

-- a choice
abbrev pub choice_text : Bool → List ℕ
choice_text true = codes "yes"
choice_text false = codes "no"

-- `names` F N
abbrev pub names_items : List (List ℕ × Kind) → NamesLine → List (List ℕ)
names_items names line = codes "names" ∷ (name_text names line.field ∷ (decimal line.most ∷ []))

-- `nonblank` F
abbrev pub nonblank_items : List (List ℕ × Kind) → NameId → List (List ℕ)
nonblank_items names id = codes "nonblank" ∷ (name_text names id ∷ [])

-- `type` T
abbrev pub type_items : List ℕ → List (List ℕ)
type_items name = codes "type" ∷ (name ∷ [])

-- the last lines of a condition
abbrev pub cond_end : Bool → List (List (List ℕ))
cond_end other = (codes "othertype" ∷ (choice_text other ∷ [])) ∷ ((codes "end" ∷ []) ∷ [])

-- the first lines of a condition
abbrev pub cond_numbers : Cond → List (List (List ℕ))
cond_numbers cond =
    (codes "entries" ∷ (decimal cond.entries ∷ []))
    ∷ ((codes "key" ∷ (decimal cond.key ∷ []))
    ∷ ((codes "preamble" ∷ (decimal cond.preamble ∷ []))
    ∷ ((codes "length" ∷ (decimal cond.length ∷ []))
    ∷ [])))

-- the lists of a condition
abbrev pub cond_lists : List (List ℕ × Kind) → Cond → List (List (List ℕ))
cond_lists names cond =
    map (names_items names) cond.names ++ (map (nonblank_items names) cond.nonblank ++ map type_items cond.types)

-- the lines of a condition
abbrev pub cond_items : List (List ℕ × Kind) → Cond → List (List (List ℕ))
cond_items names cond = cond_numbers cond ++ (cond_lists names cond ++ cond_end cond.other)
