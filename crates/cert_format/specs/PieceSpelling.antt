-- How pieces are spelled (docs/CERTIFICATES.md, "Pieces").
use Rattle.std.specs.Prelude.{ℕ, ◌+◌, ◌/◌, ◌%◌, nat_lt, if◌then◌else◌, List, [], ◌∷◌, ◌++◌, map, codes}
use Rattle.std.specs.Fmt.{decimal, signed_decimal}
use Rattle.lin_facts.specs.declared.row.Part.{Part}
use Rattle.lin_facts.specs.declared.row.Row.{Row}
use Rattle.lin_facts.specs.declared.row.Term.{Term}
use Rattle.lin_facts.specs.declared.row.Term.TheVariants.{Value, Length, Names, Pos, Count}
use Rattle.name_table.specs.declared.names.Kind.{Kind}
use Rattle.sym_state.specs.declared.piece.Piece.{Piece}
use Rattle.sym_state.specs.declared.symbol.Bind.{Bind}
use Rattle.sym_state.specs.declared.symbol.Fact.{Fact}
use Rattle.sym_state.specs.declared.symbol.Fact.TheVariants.{Is, Int, Text, Call, Block, Blank, Nonblank, Wellformed}
use Rattle.sym_state.specs.declared.symbol.Kinds.{Kinds}
use Rattle.sym_state.specs.declared.symbol.Kinds.TheVariants.{Int as IntKind, Str, Missing, Optional, Func, Any}
use Rattle.sym_state.specs.declared.symbol.Sym.{Sym}
use Rattle.cert_format.specs.Spelling.{name_text}

-- a symbol
abbrev pub sym_text : Sym → List ℕ
sym_text sym = decimal sym.0

-- the symbols of the stack, from its bottom to its top; the line stands where there is one
abbrev pub stack_lines : List Sym → List (List (List ℕ))
stack_lines [] = []
stack_lines (sym ∷ syms) = (codes "stack" ∷ map sym_text (sym ∷ syms)) ∷ []

-- a variable or a field, and the symbol of its value
abbrev pub bind_items : List ℕ → List (List ℕ × Kind) → Bind → List (List ℕ)
bind_items word names bind = word ∷ (name_text names bind.name ∷ (sym_text bind.sym ∷ []))

-- a kind; that of every value has no word
abbrev pub kind_text : Kinds → List ℕ
kind_text Any = []
kind_text IntKind = codes "int"
kind_text Str = codes "str"
kind_text Missing = codes "miss"
kind_text Optional = codes "opt"
kind_text Func = codes "func"

-- a digit of base 16, in lower case
abbrev pub hex_digit : ℕ → ℕ
hex_digit n = if nat_lt n 10 then 48 + n else 87 + n

-- the bytes of a text, two digits each
abbrev pub hex_digits : List ℕ → List ℕ
hex_digits [] = []
hex_digits (b ∷ bytes) = hex_digit (b / 16) ∷ (hex_digit (b % 16) ∷ hex_digits bytes)

-- the bytes of a text, and `-` for none
abbrev pub hex_text : List ℕ → List ℕ
hex_text [] = codes "-"
hex_text (b ∷ bytes) = hex_digits (b ∷ bytes)

-- a fact
abbrev pub fact_items : List (List ℕ × Kind) → Fact → List (List ℕ)
fact_items names (Is sym kind) = codes "is" ∷ (sym_text sym ∷ (kind_text kind ∷ []))
fact_items names (Int sym n) = codes "int" ∷ (sym_text sym ∷ (signed_decimal n ∷ []))
fact_items names (Text sym text) = codes "text" ∷ (sym_text sym ∷ (hex_text text ∷ []))
fact_items names (Call sym name) = codes "call" ∷ (sym_text sym ∷ (name_text names name ∷ []))
fact_items names (Block sym number) = codes "block" ∷ (sym_text sym ∷ (decimal number ∷ []))
fact_items names (Blank sym) = codes "blank" ∷ (sym_text sym ∷ [])
fact_items names (Nonblank sym) = codes "nonblank" ∷ (sym_text sym ∷ [])
fact_items names (Wellformed sym) = codes "wellformed" ∷ (sym_text sym ∷ [])

-- a term
abbrev pub term_text : Term → List ℕ
term_text (Value sym) = codes "value:" ++ decimal sym
term_text (Length sym) = codes "length:" ++ decimal sym
term_text (Names sym) = codes "names:" ++ decimal sym
term_text Pos = codes "pos"
term_text Count = codes "count"

-- the coefficients and terms of a row
abbrev pub part_items : List Part → List (List ℕ)
part_items [] = []
part_items (part ∷ parts) = signed_decimal part.coefficient ∷ (term_text part.term ∷ part_items parts)

-- a row
abbrev pub row_items : Row → List (List ℕ)
row_items row = codes "row" ∷ (signed_decimal row.constant ∷ part_items row.parts)

-- the lines of a piece
abbrev pub piece_lines : List (List ℕ × Kind) → Piece → List (List (List ℕ))
piece_lines names piece =
    stack_lines piece.stack
    ++ (map (bind_items (codes "var") names) piece.vars
    ++ (map (bind_items (codes "field") names) piece.fields
    ++ (map (fact_items names) piece.facts
    ++ map row_items piece.rows)))
