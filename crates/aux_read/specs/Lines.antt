-- What the lines of an `.aux` file add, and what is wrong with them (docs/DATA.md, "Lines of an .aux file").
use Rattle.std.specs.Prelude.{ℕ, List, [], ◌∷◌, ◌++◌, Option, None, Some, Result, Ok, Err, codes, nat_eq, if◌then◌else◌}
use Rattle.std.specs.Option.{option_map_or}
use Rattle.std.specs.Cmp.Lexicographic.{pointwise}
use Rattle.bv_base.specs.Answers.{then_do}
use Rattle.bv_base.specs.Places.{first_place}
use Rattle.bv_base.specs.declared.place.Place.{Place}
use Rattle.aux_read.specs.declared.aux.Aux.{Aux}
use Rattle.aux_read.specs.declared.aux.AuxItem.{AuxItem}
use Rattle.aux_read.specs.declared.aux.AuxItem.TheVariants.{Cite, All, Input}
use Rattle.aux_read.specs.declared.fault.AuxFault.{AuxFault}
use Rattle.aux_read.specs.declared.fault.AuxFault.TheVariants.{BadCommand, SecondStyle, SecondData}
use Rattle.aux_read.specs.Items.{after_front, inside_of, item_of, file_name_of, stretches}

-- what is wanted of a part that a line must have; a line without it is at fault
abbrev pub with_part : {A B : Type 0} → Place → Option A → (A → Result B AuxFault) → Result B AuxFault
with_part place (Some value) next = next value
with_part place None next = Err (BadCommand place)

-- before the first line
abbrev pub nothing : Aux
nothing =
    record {
      items = [];
      style = None;
      style_place = first_place;
      databases = [];
      data_place = first_place;
    }

-- another request after those that are there
abbrev pub with_item : AuxItem → Aux → Aux
with_item item aux = record aux { items = aux.items ++ item ∷ [] }

-- `*` asks for all entries, and any other item for the entry with this key
abbrev pub citation : List ℕ → AuxItem
citation item = if pointwise nat_eq item (codes "*") then All else Cite item

-- the stretches of a citation, each of which is an item
abbrev pub add_citations : Place → List (List ℕ) → Aux → Result Aux AuxFault
add_citations place [] aux = Ok aux
add_citations place (stretch ∷ rest) aux =
    with_part place (item_of stretch) (λ item. add_citations place rest (with_item (citation item) aux))

-- `\citation{`, and what follows it
abbrev pub take_citations : Place → List ℕ → Aux → Result Aux AuxFault
take_citations place rest aux =
    with_part place (inside_of rest) (λ inside. add_citations place (stretches inside) aux)

-- the stretches of a list of files, each of which is a name, after the names before them
abbrev pub add_names : Place → List (List ℕ) → List (List ℕ) → Result (List (List ℕ)) AuxFault
add_names place [] names = Ok names
add_names place (stretch ∷ rest) names =
    with_part place (file_name_of stretch) (λ name. add_names place rest (names ++ name ∷ []))

-- the names of files that some bytes list
abbrev pub file_names : Place → List ℕ → Result (List (List ℕ)) AuxFault
file_names place inside = add_names place (stretches inside) []

-- the databases, where none are there yet
abbrev pub with_databases : Place → List (List ℕ) → List (List ℕ) → Aux → Result Aux AuxFault
with_databases place names [] aux = Ok (record aux { databases = names; data_place = place })
with_databases place names (_ ∷ _) aux = Err (SecondData place)

-- `\bibdata{`, and what follows it
abbrev pub take_databases : Place → List ℕ → Aux → Result Aux AuxFault
take_databases place rest aux =
    with_part place (inside_of rest)
    (λ inside. then_do (file_names place inside) (λ names. with_databases place names aux.databases aux))

-- the one name of a file before the first `}`
abbrev pub file_name : Place → List ℕ → Result (List ℕ) AuxFault
file_name place rest = with_part place (inside_of rest) (λ inside. with_part place (file_name_of inside) Ok)

-- the style, where none is there yet
abbrev pub with_style : Place → List ℕ → Option (List ℕ) → Aux → Result Aux AuxFault
with_style place name None aux = Ok (record aux { style = Some name; style_place = place })
with_style place name (Some _) aux = Err (SecondStyle place)

-- `\bibstyle{`, and what follows it
abbrev pub take_style : Place → List ℕ → Aux → Result Aux AuxFault
take_style place rest aux = then_do (file_name place rest) (λ name. with_style place name aux.style aux)

-- `\@input{`, and what follows it
abbrev pub take_input : Place → List ℕ → Aux → Result Aux AuxFault
take_input place rest aux = then_do (file_name place rest) (λ name. Ok (with_item (Input name place) aux))

-- a line, which counts where it begins with one of four words and `{`
abbrev pub take_line : Place → List ℕ → Aux → Result Aux AuxFault
take_line place line aux =
    option_map_or (λ rest. take_citations place rest aux) (after_front (codes "\\citation{") line)
    (option_map_or (λ rest. take_databases place rest aux) (after_front (codes "\\bibdata{") line)
    (option_map_or (λ rest. take_style place rest aux) (after_front (codes "\\bibstyle{") line)
    (option_map_or (λ rest. take_input place rest aux) (after_front (codes "\\@input{") line)
    (Ok aux))))
