-- The texts of certificates: limits and canonical forms, and the spelling (docs/CERTIFICATES.md).
use Rattle.std.specs.Prelude.{◌≡◌, ℕ, suc, ◌+◌, ◌<◌, ◌≤◌, Bool, true, false, ◌&&◌, not, nat_le, nat_lt, List, [], ◌∷◌, ◌++◌, length, map, ℤ, pos, negsuc, Some, IfSome, is_some}
use Rattle.bst_meaning.specs.declared.value.Target.{Target}
use Rattle.bst_meaning.specs.declared.value.Target.TheVariants.{Named, Block as BlockBody}
use Rattle.bv_base.specs.declared.limits.TheConstants.{GREATEST_INTEGER}
use Rattle.lin_facts.specs.declared.row.Part.{Part}
use Rattle.lin_facts.specs.declared.row.Row.{Row}
use Rattle.lin_facts.specs.declared.row.Term.{Term}
use Rattle.lin_facts.specs.declared.row.Term.TheVariants.{Value, Length, Names, Pos, Count}
use Rattle.name_table.specs.Names.{kind_at}
use Rattle.name_table.specs.Numbers.{IsByteList}
use Rattle.name_table.specs.Sound.{Each, block_of}
use Rattle.name_table.specs.declared.names.Kind.{Kind}
use Rattle.name_table.specs.declared.names.NameId.{NameId}
use Rattle.name_table.specs.declared.style.Style.{Style}
use Rattle.sym_state.specs.declared.hint.Hint.{Hint}
use Rattle.sym_state.specs.declared.hint.Hint.TheVariants as hint
use Rattle.sym_state.specs.declared.piece.Piece.{Piece}
use Rattle.sym_state.specs.declared.proof.Proof.{Proof}
use Rattle.sym_state.specs.declared.proof.Reference.{Reference}
use Rattle.sym_state.specs.declared.proof.Reference.TheVariants as row
use Rattle.sym_state.specs.declared.proof.Use.{Use}
use Rattle.sym_state.specs.declared.symbol.Bind.{Bind}
use Rattle.sym_state.specs.declared.symbol.Fact.{Fact}
use Rattle.sym_state.specs.declared.symbol.Fact.TheVariants.{Is, Int, Text, Call, Block, Blank, Nonblank, Wellformed}
use Rattle.sym_state.specs.declared.symbol.Kinds.{Kinds}
use Rattle.sym_state.specs.declared.symbol.Kinds.TheVariants.{Any}
use Rattle.sym_state.specs.declared.symbol.Sym.{Sym}
use Rattle.cert_format.specs.CondText.{IsCond, IsField, is_below, is_chain}
use Rattle.cert_format.specs.PieceItems.{body_of, is_before, is_of_entry, is_variable, is_zero, next_after}
use Rattle.cert_format.specs.Spelling.{text_of}
use Rattle.cert_format.specs.UnitSpelling.{cert_lines}
use Rattle.cert_format.specs.declared.cert.Cert.{Cert}
use Rattle.cert_format.specs.declared.cert.CommandPart.{CommandPart}
use Rattle.cert_format.specs.declared.cert.Loop.{Loop}
use Rattle.cert_format.specs.declared.cert.Summary.{Summary}
use Rattle.cert_format.specs.declared.items.TheConstants.{MOST_NUMBER}
use Rattle.cert_format.specs.declared.limits.TheConstants.{MOST, MOST_ITEMS, MOST_LIST, MOST_PIECES, MOST_TERMS, MOST_UNITS}
use Rattle.cert_format.specs.declared.piece_items.TheConstants.{ROW_SIZE}

-- an integer is within these sizes below 0 and above it
abbrev pub is_within : ℕ → ℕ → ℤ → Bool
is_within below above (pos n) = nat_le n above
is_within below above (negsuc n) = nat_le (suc n) below

-- a number from 1 on, of 32 bits
abbrev pub IsPositive : ℕ → Type 0
IsPositive n = (1 ≤ n) × (n ≤ MOST_NUMBER)

-- a variable; one of entries only where there is an entry
abbrev pub IsVariable : Bool → List (List ℕ × Kind) → NameId → Type 0
IsVariable at_entry names id = (is_variable (kind_at id names) ≡ true) × (is_of_entry (kind_at id names) && not at_entry ≡ false)

-- each of the symbols stood before, or is the next new one
abbrev pub are_placed : ℕ → List Sym → Bool
are_placed next [] = true
are_placed next (sym ∷ syms) = nat_le sym.0 next && are_placed (next_after next sym) syms

-- the number of the next new symbol behind these
abbrev pub next_behind : ℕ → List Sym → ℕ
next_behind next [] = next
next_behind next (sym ∷ syms) = next_behind (next_after next sym) syms

-- the symbols of bindings
abbrev pub bound_symbols : List Bind → List Sym
bound_symbols binds = map (λ bind. bind.sym) binds

-- the symbols of a piece at their places
abbrev pub places_of : Piece → List Sym
places_of piece = piece.stack ++ (bound_symbols piece.vars ++ bound_symbols piece.fields)

-- a kind that has a word
abbrev pub has_word : Kinds → Bool
has_word Any = false
has_word _ = true

-- the symbol of a fact has a place, and what it says is within the limits and in the style
abbrev pub IsFact : Style → ℕ → Fact → Type 0
IsFact style next (Is sym kind) = (sym.0 < next) × (has_word kind ≡ true)
IsFact style next (Int sym n) = (sym.0 < next) × (is_within (suc GREATEST_INTEGER) GREATEST_INTEGER n ≡ true)
IsFact style next (Text sym text) = (sym.0 < next) × IsByteList text
IsFact style next (Call sym name) = (sym.0 < next) × (is_some (kind_at name style.names) ≡ true)
IsFact style next (Block sym number) = (sym.0 < next) × (number ≤ MOST) × (is_some (body_of number style.bodies) ≡ true)
IsFact style next (Blank sym) = sym.0 < next
IsFact style next (Nonblank sym) = sym.0 < next
IsFact style next (Wellformed sym) = sym.0 < next

-- the symbol of a term has a place; `pos` stands only where there is an entry
abbrev pub IsTerm : Bool → ℕ → Term → Type 0
IsTerm has_pos next (Value sym) = sym < next
IsTerm has_pos next (Length sym) = sym < next
IsTerm has_pos next (Names sym) = sym < next
IsTerm has_pos next Pos = has_pos ≡ true
IsTerm has_pos next Count = Unit {0}

-- a coefficient within the limits that isn't 0, and its term
pub record IsPart (has_pos : Bool) (next : ℕ) (part : Part) : Type 0 where
  pub small : is_within ROW_SIZE ROW_SIZE part.coefficient ≡ true
  pub some : is_zero part.coefficient ≡ false
  pub term : IsTerm has_pos next part.term

-- a row is within the limits, and its terms stand in their order
pub record IsRow (has_pos : Bool) (next : ℕ) (row : Row) : Type 0 where
  pub constant : is_within ROW_SIZE ROW_SIZE row.constant ≡ true
  pub parts : Each (IsPart has_pos next) row.parts
  pub few : length row.parts ≤ MOST_TERMS
  pub rise : is_chain (λ a b. is_before a.term b.term) row.parts ≡ true

-- a piece is within the limits and in its canonical form; its first new symbol has this number
pub record IsPiece (style : Style) (at_entry : Bool) (has_pos : Bool) (next : ℕ) (piece : Piece) : Type 0 where
  pub placed : are_placed next (places_of piece) ≡ true
  pub few_symbols : length piece.stack ≤ MOST_ITEMS
  pub vars : Each (λ bind. IsVariable at_entry style.names bind.name) piece.vars
  pub vars_rise : is_chain (λ a b. is_below a.name b.name) piece.vars ≡ true
  pub fields : Each (λ bind. IsField style.names bind.name × (at_entry ≡ true)) piece.fields
  pub fields_rise : is_chain (λ a b. is_below a.name b.name) piece.fields ≡ true
  pub facts : Each (IsFact style (next_behind next (places_of piece))) piece.facts
  pub few_facts : length piece.facts ≤ MOST_ITEMS
  pub rows : Each (IsRow has_pos (next_behind next (places_of piece))) piece.rows
  pub few_rows : length piece.rows ≤ MOST_ITEMS

-- the number of a reference, where it has one
abbrev pub reference_number : Reference → ℕ
reference_number (row.Row n) = n
reference_number (row.ValueLow sym) = sym.0
reference_number (row.ValueHigh sym) = sym.0
reference_number (row.LengthLow sym) = sym.0
reference_number (row.NamesLow sym) = sym.0
reference_number (row.NamesHigh sym) = sym.0
reference_number (row.ExactLow sym) = sym.0
reference_number (row.ExactHigh sym) = sym.0
reference_number (row.NonblankLength sym) = sym.0
reference_number (row.NonblankNames sym) = sym.0
reference_number (row.TextLow sym) = sym.0
reference_number (row.TextHigh sym) = sym.0
reference_number _ = 0

-- the numbers of what is added up have 32 bits, and it is taken at least once
abbrev pub IsUse : Use → Type 0
IsUse one = IsPositive one.times × (reference_number one.reference ≤ MOST_NUMBER)

-- a proof is within the limits
pub record IsProof (proof : Proof) : Type 0 where
  pub divisor : IsPositive proof.divisor
  pub uses : Each IsUse proof.uses
  pub few : length proof.uses ≤ MOST_ITEMS

-- the numbers of a hint are within their limits
abbrev pub IsHint : Hint → Type 0
IsHint (hint.Apply n) = n ≤ MOST
IsHint (hint.Loop n) = n ≤ MOST
IsHint (hint.Case n) = n ≤ MOST
IsHint (hint.Drop proof) = IsProof proof
IsHint (hint.Step proof) = IsProof proof
IsHint _ = Unit {0}

-- a body that can be named: by a name of the style, or as a block by its number
abbrev pub IsNameable : Style → Target → Type 0
IsNameable style (Named id) = is_some (kind_at id style.names) ≡ true
IsNameable style (BlockBody body) = (number : ℕ) × (block_of body style.bodies ≡ Some (Some number)) × (number ≤ MOST)

-- the variables that a unit may write, upwards
abbrev pub AreWrites : Bool → List (List ℕ × Kind) → List NameId → Type 0
AreWrites entry names writes = Each (IsVariable entry names) writes × (is_chain is_below writes ≡ true)

-- a summary is within the limits and in its canonical form
pub record IsSummary (style : Style) (summary : Summary) : Type 0 where
  pub body : IsNameable style summary.body
  pub writes : AreWrites summary.entry style.names summary.writes
  pub pre : IsPiece style summary.entry summary.entry 0 summary.pre
  pub posts : Each (IsPiece style summary.entry summary.entry (next_behind 0 (places_of summary.pre))) summary.posts
  pub few : suc (length summary.posts) ≤ MOST_PIECES
  pub hints : Each IsHint summary.hints

-- a loop is within the limits and in its canonical form, and has a case
pub record IsLoop (style : Style) (loop : Loop) : Type 0 where
  pub test : IsNameable style loop.test
  pub body : IsNameable style loop.body
  pub writes : AreWrites loop.entry style.names loop.writes
  pub cases : Each (IsPiece style loop.entry loop.entry 0) loop.cases
  pub exits : Each (IsPiece style loop.entry loop.entry 0) loop.exits
  pub some : 1 ≤ length loop.cases
  pub few : length loop.cases + length loop.exits ≤ MOST_PIECES
  pub hints : Each IsHint loop.hints

-- what belongs to a command of the style is within the limits and in its canonical form; `pos` stands in `visit` alone
pub record IsCommandPart (style : Style) (command : CommandPart) : Type 0 where
  pub there : command.index < length style.commands
  pub small : command.index ≤ MOST
  pub after : IfSome command.after (IsPiece style true false 0)
  pub visit : IfSome command.visit (IsPiece style true true 0)
  pub keeps : IfSome command.keeps (IsPiece style true false 0)
  pub hints : Each IsHint command.hints

-- a certificate is within the limits and in its canonical form
pub record IsCert (style : Style) (cert : Cert) : Type 0 where
  pub list : (1 ≤ cert.list) × (cert.list ≤ MOST_LIST)
  pub cond : IsCond style.names cert.cond
  pub summaries : Each (IsSummary style) cert.summaries
  pub few_summaries : length cert.summaries ≤ MOST_UNITS
  pub loops : Each (IsLoop style) cert.loops
  pub few_loops : length cert.loops ≤ MOST_UNITS
  pub commands : Each (IsCommandPart style) cert.commands
  pub rise : is_chain (λ a b. nat_lt a.index b.index) cert.commands ≡ true

-- a text is that of a certificate: this keeps the limits and the canonical forms, and the text is its spelling
pub record CertText (style : Style) (source : List ℕ) (cert : Cert) : Type 0 where
  pub kept : IsCert style cert
  pub spelled : source ≡ text_of (cert_lines style cert)
