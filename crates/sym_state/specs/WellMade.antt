-- Well-made states (docs/STATES.md, "Well-made states"): what holds of every state that the calls give.
use Rattle.std.specs.Prelude.{◌≡◌, ℕ, suc, ◌<◌, ◌≤◌, ◌^◌, Bool, true, false, ◌||◌, ℤ, pos, negsuc, if◌then◌else◌, List, [], ◌∷◌, length, map, Some}
use Rattle.std.specs.List.{All, sum_by}
use Rattle.lin_facts.specs.Rows.{IsWithin}
use Rattle.lin_facts.specs.declared.row.Row.{Row}
use Rattle.lin_facts.specs.declared.row.Term.{Term}
use Rattle.lin_facts.specs.declared.row.Term.TheVariants.{Value, Length, Names, Pos, Count}
use Rattle.name_table.specs.Sound.{block_of}
use Rattle.name_table.specs.declared.names.NameId.{NameId}
use Rattle.name_table.specs.declared.names.Kind.{Kind}
use Rattle.name_table.specs.declared.names.Kind.TheVariants.{Field, IntEntry, StrEntry, IntGlobal, StrGlobal}
use Rattle.name_table.specs.declared.style.BodyId.{BodyId}
use Rattle.name_table.specs.declared.style.Style.{Style}
use Rattle.bst_meaning.specs.declared.condition.Cond.{Cond}
use Rattle.bst_meaning.specs.Entries.{IsByteList}
use Rattle.bst_meaning.specs.Operands.{has_32_bits}
use Rattle.sym_state.specs.declared.symbol.Fact.{Fact}
use Rattle.sym_state.specs.declared.symbol.Fact.TheVariants.{Int as IntFact, Text as TextFact, Call, Block}
use Rattle.sym_state.specs.State.{State}
use Rattle.sym_state.specs.Facts.{subject}

-- a variable that has a value: a global one, or at an entry one of its own
abbrev pub is_variable : Bool → Kind → Bool
is_variable at_entry IntGlobal = true
is_variable at_entry StrGlobal = true
is_variable at_entry IntEntry = at_entry
is_variable at_entry StrEntry = at_entry
is_variable at_entry _ = false

-- a field that has a value
abbrev pub is_field : Bool → Kind → Bool
is_field at_entry Field = at_entry
is_field at_entry _ = false

-- either of them
abbrev pub takes_part : Bool → Kind → Bool
takes_part at_entry kind = is_variable at_entry kind || is_field at_entry kind

-- the ids of the names whose kind passes a test, where the names are numbered from here
abbrev pub ids_from : (Kind → Bool) → ℕ → List (List ℕ × Kind) → List NameId
ids_from test id [] = []
ids_from test id (name ∷ names) =
    if test name.1 then record { 0 = id } ∷ ids_from test (suc id) names else ids_from test (suc id) names

-- the symbol of a term is below a number
abbrev pub IsTermBelow : ℕ → Term → Type 0
IsTermBelow next (Value s) = s < next
IsTermBelow next (Length s) = s < next
IsTermBelow next (Names s) = s < next
IsTermBelow next Pos = Unit {0}
IsTermBelow next Count = Unit {0}

-- how great an integer is, whatever its sign
abbrev pub size : ℤ → ℕ
size (pos n) = n
size (negsuc n) = suc n

-- a row of at most 32 parts, a constant of at most the size 2^45, and coefficients whose sizes add up to at most that
pub record IsBounded (row : Row) : Type 0 where
  pub parts : length row.parts ≤ 32
  pub constant : IsWithin (2 ^ 45) row.constant
  pub coefficients : sum_by (λ part. size part.coefficient) row.parts ≤ 2 ^ 45

-- the limits of a condition that effects take as constants of rows
pub record HasSmallLimits (cond : Cond) : Type 0 where
  pub key : cond.key ≤ 2 ^ 45
  pub preamble : cond.preamble ≤ 2 ^ 45

-- the limits on fields that states take as constants of rows where they start
pub record HasSmallFields (cond : Cond) : Type 0 where
  pub length : cond.length ≤ 2 ^ 45
  pub names : All (λ line. line.most ≤ 2 ^ 45) cond.names

-- a text of a fact has at most 2^45 bytes
abbrev pub HasShortText : Fact → Type 0
HasShortText (TextFact s text) = length text ≤ 2 ^ 45
HasShortText _ = Unit {0}

-- the integer of a fact has 32 bits
abbrev pub HasSmallInteger : Fact → Type 0
HasSmallInteger (IntFact s n) = has_32_bits n ≡ true
HasSmallInteger _ = Unit {0}

-- the text of a fact is of bytes
abbrev pub HasByteText : Fact → Type 0
HasByteText (TextFact s text) = IsByteList text
HasByteText _ = Unit {0}

-- a name or a block of a fact is the style's
abbrev pub IsOfStyle : Style → Fact → Type 0
IsOfStyle style (Call s name) = name.0 < length style.names
IsOfStyle style (Block s number) = (body : BodyId) × (block_of body style.bodies ≡ Some (Some number))
IsOfStyle style _ = Unit {0}

-- the texts and rows of a state are within their bounds
pub record HasBounds (state : State) : Type 0 where
  pub facts : All HasShortText state.facts
  pub rows : All IsBounded state.rows

-- each symbol is one of the state's, it binds each variable and field that has a value, in the order of ids, the names,
-- blocks, integers and texts of its facts are those of values, and its texts and rows are within their bounds
pub record WellMade (style : Style) (state : State) : Type 0 where
  pub stack : All (λ s. s.0 < state.next) state.stack
  pub vars : All (λ bind. bind.sym.0 < state.next) state.vars
  pub fields : All (λ bind. bind.sym.0 < state.next) state.fields
  pub facts : All (λ fact. subject fact < state.next) state.facts
  pub rows : All (λ row. All (λ part. IsTermBelow state.next part.term) row.parts) state.rows
  pub binds_vars : map (λ bind. bind.name) state.vars ≡ ids_from (is_variable state.at_entry) 0 style.names
  pub binds_fields : map (λ bind. bind.name) state.fields ≡ ids_from (is_field state.at_entry) 0 style.names
  pub of_style : All (IsOfStyle style) state.facts
  pub integers : All HasSmallInteger state.facts
  pub bytes : All HasByteText state.facts
  pub bounds : HasBounds state
