-- What single items say (docs/CERTIFICATES.md, "Items").
use Rattle.std.specs.Prelude.{ℕ, ◌-◌, Bool, true, false, ◌&&◌, ◌||◌, not, nat_eq, nat_lt, if◌then◌else◌, List, [], ◌∷◌, length, codes, slice_get, Option, None, Some, Result, Ok, Err}
use Rattle.std.specs.List.{list_all}
use Rattle.std.specs.Cmp.Lexicographic.{pointwise, slice_cmp}
use Rattle.std.specs.Ordering.{is_lt, nat_cmp}
use Rattle.bv_base.specs.Answers.{then_do}
use Rattle.bv_base.specs.Runs.{is_black, is_digit, number_from}
use Rattle.name_table.specs.Names.{id_of, kind_at, same_name}
use Rattle.name_table.specs.declared.names.Kind.{Kind}
use Rattle.name_table.specs.declared.names.Kind.TheVariants.{Field}
use Rattle.name_table.specs.declared.names.NameId.{NameId}
use Rattle.cert_format.specs.Lines.{Item, Line, line_end}
use Rattle.cert_format.specs.declared.stop.Stop.{Stop}
use Rattle.cert_format.specs.declared.stop.Stop.TheVariants.{Syntax, UnknownName, OutOfRange, NotCanonical}

-- the item is this word
abbrev pub is_word : List ℕ → Item → Bool
is_word word item = pointwise nat_eq item.text word

-- the item must be this word
abbrev pub expected : List ℕ → Item → Result (Unit {0}) Stop
expected word item = if is_word word item then Ok tt else Err (Syntax item.left)

-- a line must be this word alone
abbrev pub only : List ℕ → Item → Line → Result (Unit {0}) Stop
only text word line = then_do (expected text word) (λ _. line_end line)

-- no byte
abbrev pub is_empty : List ℕ → Bool
is_empty text = nat_eq (length text) 0

-- one digit or more
abbrev pub is_numeral : List ℕ → Bool
is_numeral text = not (is_empty text) && list_all is_digit text

-- a 0 before other digits
abbrev pub has_leading_zero : List ℕ → Bool
has_leading_zero (digit ∷ (next ∷ digits)) = nat_eq digit 48
has_leading_zero text = false

-- a number of at most so much
abbrev pub natural : ℕ → Item → Result ℕ Stop
natural most item =
    if not (is_numeral item.text) then Err (Syntax item.left)
    else if nat_lt most (number_from 0 item.text) then Err (OutOfRange item.left)
    else if has_leading_zero item.text then Err (NotCanonical item.left)
    else Ok (number_from 0 item.text)

-- a number from 1 on, of at most so much
abbrev pub positive : ℕ → Item → Result ℕ Stop
positive most item =
    if not (is_numeral item.text) then Err (Syntax item.left)
    else if nat_eq (number_from 0 item.text) 0 || nat_lt most (number_from 0 item.text) then Err (OutOfRange item.left)
    else if has_leading_zero item.text then Err (NotCanonical item.left)
    else Ok (number_from 0 item.text)

-- a name that is there
abbrev pub found : ℕ → Option NameId → Result NameId Stop
found left (Some id) = Ok id
found left None = Err (UnknownName left)

-- a name of the style, as it is kept
abbrev pub name_in : List (List ℕ × Kind) → Item → Result NameId Stop
name_in names item =
    if is_empty item.text then Err (Syntax item.left) else found item.left (id_of item.text names)

-- the name of a field
abbrev pub is_field : Option Kind → Bool
is_field (Some Field) = true
is_field _ = false

-- a field of the style
abbrev pub field_in : List (List ℕ × Kind) → Item → Result NameId Stop
field_in names item =
    then_do (name_in names item) (λ id. if is_field (kind_at id names) then Ok id else Err (UnknownName item.left))

-- the last of some items of a list
abbrev pub last_of : {A : Type 0} → List A → Option A
last_of list = slice_get list (length list - 1)

-- a name may stand behind the last one where it is above it
abbrev pub is_above : Option NameId → NameId → Bool
is_above None id = true
is_above (Some last) id = nat_lt last.0 id.0

-- a field of the style, above the last one
abbrev pub field_above : Option NameId → List (List ℕ × Kind) → Item → Result NameId Stop
field_above last names item =
    then_do (field_in names item) (λ id. if is_above last id then Ok id else Err (NotCanonical item.left))

-- a choice
abbrev pub choice : Item → Result Bool Stop
choice item =
    if is_word (codes "yes") item then Ok true
    else if is_word (codes "no") item then Ok false
    else Err (Syntax item.left)

-- a type: one byte or more without white space
abbrev pub is_type : List ℕ → Bool
is_type text = not (is_empty text) && list_all is_black text

-- a type may stand behind the last one where it is above it by its bytes
abbrev pub is_behind : Option (List ℕ) → List ℕ → Bool
is_behind None text = true
is_behind (Some last) text = is_lt (slice_cmp nat_cmp last text)

-- the item must be a type above the last one
abbrev pub type_above : Option (List ℕ) → Item → Result (Unit {0}) Stop
type_above last item =
    if not (is_type item.text) then Err (Syntax item.left)
    else if is_behind last item.text then Ok tt
    else Err (NotCanonical item.left)

-- what stands beside a text in a table
abbrev pub among : {A : Type 0} → List ℕ → List (List ℕ × A) → Option A
among text [] = None
among text (first ∷ rest) = if same_name text first.0 then Some first.1 else among text rest
