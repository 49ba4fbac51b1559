-- What the items of pieces say (docs/CERTIFICATES.md, "Pieces").
use Rattle.std.specs.Prelude.{ℕ, suc, ◌+◌, ◌-◌, ◌*◌, min, max, Bool, true, false, ◌&&◌, ◌||◌, not, nat_eq, nat_lt, nat_le, if◌then◌else◌, List, [], ◌∷◌, length, codes, ℤ, pos, neg_ℤ, nat_abs, drop, take, Option, None, Some, is_some, Result, Ok, Err}
use Rattle.std.specs.Option.{option_map, option_map_or}
use Rattle.std.specs.Cmp.Lexicographic.{pointwise}
use Rattle.bv_base.specs.Answers.{then_do}
use Rattle.bv_base.specs.Runs.{is_digit, number_from}
use Rattle.lin_facts.specs.declared.row.Part.{Part}
use Rattle.lin_facts.specs.declared.row.Term.{Term}
use Rattle.lin_facts.specs.declared.row.Term.TheVariants.{Value, Length, Names, Pos, Count}
use Rattle.name_table.specs.Names.{kind_at}
use Rattle.name_table.specs.declared.names.Kind.{Kind}
use Rattle.name_table.specs.declared.names.Kind.TheVariants.{IntEntry, StrEntry, IntGlobal, StrGlobal}
use Rattle.name_table.specs.declared.names.NameId.{NameId}
use Rattle.name_table.specs.declared.style.Body.{Body}
use Rattle.name_table.specs.declared.style.BodyId.{BodyId}
use Rattle.sym_state.specs.declared.symbol.Kinds.{Kinds}
use Rattle.sym_state.specs.declared.symbol.Kinds.TheVariants.{Int as IntKind, Str, Missing, Optional, Func}
use Rattle.sym_state.specs.declared.symbol.Sym.{Sym}
use Rattle.cert_format.specs.Items.{field_in, has_leading_zero, is_above, is_numeral, is_word, name_in}
use Rattle.cert_format.specs.Lines.{Item}
use Rattle.cert_format.specs.declared.items.TheConstants.{MOST_NUMBER}
use Rattle.cert_format.specs.declared.limits.TheConstants.{MOST}
use Rattle.cert_format.specs.declared.piece_items.TheConstants.{ROW_SIZE}
use Rattle.cert_format.specs.declared.stop.Stop.{Stop}
use Rattle.cert_format.specs.declared.stop.Stop.TheVariants.{Syntax, UnknownName, OutOfRange, NotCanonical}

-- the number of the next new symbol after a symbol stood at a place; it stays within 32 bits
abbrev pub next_after : ℕ → Sym → ℕ
next_after next sym = min MOST_NUMBER (max next (suc sym.0))

-- a symbol at a place: one that stood before, or the next new one
abbrev pub placed : ℕ → Item → Result Sym Stop
placed next item =
    if not (is_numeral item.text) then Err (Syntax item.left)
    else if nat_lt next (number_from 0 item.text) || has_leading_zero item.text then Err (NotCanonical item.left)
    else Ok (record { 0 = number_from 0 item.text })

-- a symbol in a fact: one that has a place
abbrev pub known : ℕ → Item → Result Sym Stop
known next item =
    if not (is_numeral item.text) then Err (Syntax item.left)
    else if nat_le next (number_from 0 item.text) then Err (OutOfRange item.left)
    else if has_leading_zero item.text then Err (NotCanonical item.left)
    else Ok (record { 0 = number_from 0 item.text })

-- a sign stands first
abbrev pub is_negative : List ℕ → Bool
is_negative [] = false
is_negative (b ∷ bytes) = nat_eq b 45

-- what stands behind the sign
abbrev pub unsigned : List ℕ → List ℕ
unsigned text = if is_negative text then drop 1 text else text

-- an integer by its sign and its size
abbrev pub integer_of : Bool → ℕ → ℤ
integer_of true size = neg_ℤ (pos size)
integer_of false size = pos size

-- a size is within the bounds below 0 and above it
abbrev pub is_beyond : ℕ → ℕ → Bool → ℕ → Bool
is_beyond below above true size = nat_lt below size
is_beyond below above false size = nat_lt above size

-- the sign and the size of an integer between these bounds, by its sign and its digits
abbrev pub sized : ℕ → ℕ → Bool → List ℕ → ℕ → Result (Bool × ℕ) Stop
sized below above negative digits left =
    if not (is_numeral digits) then Err (Syntax left)
    else if is_beyond below above negative (number_from 0 digits) then Err (OutOfRange left)
    else if has_leading_zero digits || (negative && nat_eq (number_from 0 digits) 0) then Err (NotCanonical left)
    else Ok (negative, number_from 0 digits)

-- the sign and the size of an integer between these bounds
abbrev pub signed : ℕ → ℕ → Item → Result (Bool × ℕ) Stop
signed below above item = sized below above (is_negative item.text) (unsigned item.text) item.left

-- an integer between these bounds
abbrev pub integer : ℕ → ℕ → Item → Result ℤ Stop
integer below above item = then_do (signed below above item) (λ found. Ok (integer_of found.0 found.1))

-- a variable of the style, and whether each entry has its own
abbrev pub is_variable : Option Kind → Bool
is_variable (Some IntEntry) = true
is_variable (Some StrEntry) = true
is_variable (Some IntGlobal) = true
is_variable (Some StrGlobal) = true
is_variable _ = false

-- a variable that each entry has its own of
abbrev pub is_of_entry : Option Kind → Bool
is_of_entry (Some IntEntry) = true
is_of_entry (Some StrEntry) = true
is_of_entry _ = false

-- a variable of the style; one of entries stands at an entry alone
abbrev pub variable_in : Bool → List (List ℕ × Kind) → Item → Result NameId Stop
variable_in at_entry names item =
    then_do (name_in names item) (λ id.
    if not (is_variable (kind_at id names)) then Err (UnknownName item.left)
    else if is_of_entry (kind_at id names) && not at_entry then Err (OutOfRange item.left)
    else Ok id)

-- a variable of the style, above the last one
abbrev pub variable_above : Bool → Option NameId → List (List ℕ × Kind) → Item → Result NameId Stop
variable_above at_entry last names item =
    then_do (variable_in at_entry names item) (λ id. if is_above last id then Ok id else Err (NotCanonical item.left))

-- a field of the style above the last one; it stands at an entry alone
abbrev pub entry_field : Bool → Option NameId → List (List ℕ × Kind) → Item → Result NameId Stop
entry_field at_entry last names item =
    then_do (field_in names item) (λ id.
    if not at_entry then Err (OutOfRange item.left)
    else if is_above last id then Ok id
    else Err (NotCanonical item.left))

-- what a kind's word says
abbrev pub kind : Item → Result Kinds Stop
kind item =
    if is_word (codes "int") item then Ok IntKind
    else if is_word (codes "str") item then Ok Str
    else if is_word (codes "miss") item then Ok Missing
    else if is_word (codes "opt") item then Ok Optional
    else if is_word (codes "func") item then Ok Func
    else Err (Syntax item.left)

-- the value of a digit of base 16, in lower case
abbrev pub hex_value : ℕ → Option ℕ
hex_value b =
    if is_digit b then Some (b - 48) else if nat_le 97 b && nat_le b 102 then Some (b - 87) else None

-- the byte that two digits write
abbrev pub byte_of : Option ℕ → Option ℕ → Option ℕ
byte_of (Some high) (Some low) = Some (16 * high + low)
byte_of _ _ = None

-- a byte before others, where both are there
abbrev pub with_byte : Option ℕ → Option (List ℕ) → Option (List ℕ)
with_byte (Some byte) bytes = option_map (λ more. byte ∷ more) bytes
with_byte None bytes = None

-- the bytes that digits of base 16 write, two each
abbrev pub hex_bytes : List ℕ → Option (List ℕ)
hex_bytes [] = Some []
hex_bytes (digit ∷ []) = None
hex_bytes (high ∷ (low ∷ digits)) = with_byte (byte_of (hex_value high) (hex_value low)) (hex_bytes digits)

-- the bytes of a text, which is `-` where it has none
abbrev pub text_bytes : List ℕ → Option (List ℕ)
text_bytes [] = None
text_bytes text = if pointwise nat_eq text (codes "-") then Some [] else hex_bytes text

-- the bytes of a text
abbrev pub text : Item → Result (List ℕ) Stop
text item = option_map_or Ok (text_bytes item.text) (Err (Syntax item.left))

-- the order of the terms
abbrev pub term_rank : Term → ℕ
term_rank (Value sym) = 0
term_rank (Length sym) = 1
term_rank (Names sym) = 2
term_rank Pos = 3
term_rank Count = 4

-- the symbol of a term
abbrev pub term_symbol : Term → ℕ
term_symbol (Value sym) = sym
term_symbol (Length sym) = sym
term_symbol (Names sym) = sym
term_symbol Pos = 0
term_symbol Count = 0

-- a term stands before another in a row
abbrev pub is_before : Term → Term → Bool
is_before a b =
    nat_lt (term_rank a) (term_rank b)
    || (nat_eq (term_rank a) (term_rank b) && nat_lt (term_symbol a) (term_symbol b))

-- a term may stand behind the last one
abbrev pub is_later : Option Part → Term → Bool
is_later None term = true
is_later (Some last) term = is_before last.term term

-- what follows a prefix, where the bytes begin with it
abbrev pub after : List ℕ → List ℕ → Option (List ℕ)
after prefix bytes = if pointwise nat_eq (take (length prefix) bytes) prefix then Some (drop (length prefix) bytes) else None

-- a part of an item; what is at fault in it stands where the item begins
abbrev pub part_of : Item → List ℕ → Item
part_of item text = record { text = text; left = item.left }

-- what follows a prefix of an item
abbrev pub after_in : List ℕ → Item → Option Item
after_in prefix item = option_map (part_of item) (after prefix item.text)

-- a symbol in a term
abbrev pub symbol_term : (ℕ → Term) → ℕ → Item → Result Term Stop
symbol_term of_symbol next item = then_do (known next item) (λ sym. Ok (of_symbol sym.0))

-- a term without a symbol
abbrev pub bare_term : Bool → Item → Result Term Stop
bare_term has_pos item =
    if is_word (codes "pos") item then (if has_pos then Ok Pos else Err (OutOfRange item.left))
    else if is_word (codes "count") item then Ok Count
    else Err (Syntax item.left)

-- a term; `pos` stands where there is an entry alone
abbrev pub term : Bool → ℕ → Item → Result Term Stop
term has_pos next item =
    option_map_or (symbol_term Value next) (after_in (codes "value:") item)
    (option_map_or (symbol_term Length next) (after_in (codes "length:") item)
    (option_map_or (symbol_term Names next) (after_in (codes "names:") item)
    (bare_term has_pos item)))

-- a term behind the last one
abbrev pub term_behind : Bool → ℕ → Option Part → Item → Result Term Stop
term_behind has_pos next last item =
    then_do (term has_pos next item) (λ t. if is_later last t then Ok t else Err (NotCanonical item.left))

-- the integer 0
abbrev pub is_zero : ℤ → Bool
is_zero n = nat_eq (nat_abs n) 0

-- a coefficient, which isn't 0
abbrev pub coefficient : Item → Result ℤ Stop
coefficient item =
    then_do (integer ROW_SIZE ROW_SIZE item) (λ n. if is_zero n then Err (NotCanonical item.left) else Ok n)

-- the body is the block of this number
abbrev pub is_block : ℕ → Option ℕ → Bool
is_block number None = false
is_block number (Some n) = nat_eq n number

-- the block of this number among bodies, the first of which has this id
abbrev pub body_from : ℕ → ℕ → List Body → Option BodyId
body_from id number [] = None
body_from id number (body ∷ bodies) =
    if is_block number body.block then Some (record { 0 = id }) else body_from (suc id) number bodies

-- the block of this number
abbrev pub body_of : ℕ → List Body → Option BodyId
body_of number bodies = body_from 0 number bodies

-- the blocks among bodies, the first of which has this id, in order
abbrev pub blocks_from : ℕ → List Body → List BodyId
blocks_from id [] = []
blocks_from id (body ∷ bodies) =
    if is_some body.block then record { 0 = id } ∷ blocks_from (suc id) bodies else blocks_from (suc id) bodies

-- the blocks of a style, in order
abbrev pub blocks_of : List Body → List BodyId
blocks_of bodies = blocks_from 0 bodies

-- a block of the style
abbrev pub block_number : List Body → Item → Result ℕ Stop
block_number bodies item =
    if not (is_numeral item.text) then Err (Syntax item.left)
    else if nat_lt MOST (number_from 0 item.text) || not (is_some (body_of (number_from 0 item.text) bodies))
    then Err (OutOfRange item.left)
    else if has_leading_zero item.text then Err (NotCanonical item.left)
    else Ok (number_from 0 item.text)
