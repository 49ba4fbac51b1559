-- What the facts on a symbol decide (docs/STATES.md, "What facts decide"): the first of them that decides it counts.
use Rattle.std.specs.Prelude.{ℕ, ℤ, Bool, true, false, ◌&&◌, ◌||◌, not, nat_eq, if◌then◌else◌, List, [], ◌∷◌, Option, None, Some}
use Rattle.std.specs.List.{list_any}
use Rattle.std.specs.Option.{option_or, option_map_or, unwrap_or}
use Rattle.std.specs.Ordering.{int_eq}
use Rattle.std.specs.Cmp.Lexicographic.{pointwise}
use Rattle.name_split.specs.AllParts.{names_ok}
use Rattle.name_table.specs.declared.names.NameId.{NameId}
use Rattle.text_ops.specs.Blank.{blank}
use Rattle.sym_state.specs.declared.symbol.Kinds.{Kinds}
use Rattle.sym_state.specs.declared.symbol.Kinds.TheVariants.{Int as IntKind, Str, Missing, Optional, Func, Any}
use Rattle.sym_state.specs.declared.symbol.Fact.{Fact}
use Rattle.sym_state.specs.declared.symbol.Fact.TheVariants.{Is, Int, Text, Call, Block, Blank, Nonblank, Wellformed}
use Rattle.sym_state.specs.Facts.{subject}

-- the kind that one fact says
abbrev pub kind_said : Fact → Kinds
kind_said (Is s kind) = kind
kind_said (Int s n) = IntKind
kind_said (Text s text) = Str
kind_said (Call s name) = Func
kind_said (Block s number) = Func
kind_said (Blank s) = Optional
kind_said (Nonblank s) = Str
kind_said (Wellformed s) = Any

-- the exact value that one fact says
abbrev pub integer_said : Fact → Option ℤ
integer_said (Int s n) = Some n
integer_said _ = None

-- the text that one fact says
abbrev pub text_said : Fact → Option (List ℕ)
text_said (Text s text) = Some text
text_said _ = None

-- the name that one fact says
abbrev pub name_said : Fact → Option NameId
name_said (Call s name) = Some name
name_said _ = None

-- the block that one fact says
abbrev pub block_said : Fact → Option ℕ
block_said (Block s number) = Some number
block_said _ = None

-- what one fact says that `empty$` gives: true for 1
abbrev pub emptiness_said : Fact → Option Bool
emptiness_said (Is s Missing) = Some true
emptiness_said (Text s text) = Some (blank text)
emptiness_said (Blank s) = Some true
emptiness_said (Nonblank s) = Some false
emptiness_said _ = None

-- a kind of which no value has a name that isn't well formed
abbrev pub is_nameless : Kinds → Bool
is_nameless IntKind = true
is_nameless Missing = true
is_nameless Func = true
is_nameless _ = false

-- one fact says that each name is well formed
abbrev pub wellformed_said : Fact → Bool
wellformed_said (Text s text) = names_ok text
wellformed_said (Blank s) = true
wellformed_said (Wellformed s) = true
wellformed_said fact = is_nameless (kind_said fact)

-- a kind includes each narrower one
abbrev pub includes : Kinds → Kinds → Bool
includes Any kind = true
includes IntKind IntKind = true
includes Str Str = true
includes Missing Missing = true
includes Optional Str = true
includes Optional Missing = true
includes Optional Optional = true
includes Func Func = true
includes _ kind = false

-- a fact is a consequence of one that is on the same symbol: gives FACT WANTED
abbrev pub gives : Fact → Fact → Bool
gives fact (Is s kind) = includes kind (kind_said fact)
gives fact (Int s n) = option_map_or (int_eq n) (integer_said fact) false
gives fact (Text s text) = option_map_or (pointwise nat_eq text) (text_said fact) false
gives fact (Call s name) = option_map_or (λ other. nat_eq name.0 other.0) (name_said fact) false
gives fact (Block s number) = option_map_or (nat_eq number) (block_said fact) false
gives fact (Blank s) = option_map_or (λ empty. empty) (emptiness_said fact) false
gives fact (Nonblank s) = option_map_or not (emptiness_said fact) false
gives fact (Wellformed s) = wellformed_said fact

-- the kind of every value says nothing
abbrev pub says_nothing : Fact → Bool
says_nothing (Is s Any) = true
says_nothing _ = false

-- a fact follows for a symbol where it says nothing, or one of the facts on that symbol gives it
abbrev pub is_known : List Fact → ℕ → Fact → Bool
is_known facts s wanted = says_nothing wanted || list_any (λ fact. nat_eq (subject fact) s && gives fact wanted) facts

-- what the first fact on a symbol that decides something says of it
abbrev pub first_said : {X : Type 0} → (Fact → Option X) → ℕ → List Fact → Option X
first_said said s [] = None
first_said said s (fact ∷ facts) =
    if nat_eq (subject fact) s then option_or (said fact) (first_said said s facts) else first_said said s facts

-- the exact integer of a symbol, and its exact text
abbrev pub exact_integer : List Fact → ℕ → Option ℤ
exact_integer facts s = first_said integer_said s facts

-- the exact text of a symbol
abbrev pub exact_text : List Fact → ℕ → Option (List ℕ)
exact_text facts s = first_said text_said s facts

-- the function that one fact says: by its name, or a block by its number
pub data Function : Type 0 where
  ByName : (name : NameId) → Function
  ByNumber : (number : ℕ) → Function

-- that function, where the fact says one
abbrev pub function_said : Fact → Option Function
function_said (Call s name) = Some (ByName name)
function_said (Block s number) = Some (ByNumber number)
function_said _ = None

-- the exact function of a symbol
abbrev pub exact_function : List Fact → ℕ → Option Function
exact_function facts s = first_said function_said s facts

-- the name of a function that has one
abbrev pub name_of : Function → Option NameId
name_of (ByName name) = Some name
name_of (ByNumber number) = None

-- the number of a function that is a block
abbrev pub number_of : Function → Option ℕ
number_of (ByName name) = None
number_of (ByNumber number) = Some number

-- a symbol is known nonblank where the first fact that decides `empty$` decides 0
abbrev pub is_known_nonblank : List Fact → ℕ → Bool
is_known_nonblank facts s = option_map_or not (first_said emptiness_said s facts) false

-- a kind of which all values are integers, or strings, or missing fields, or functions
abbrev pub single : Kinds → Option Kinds
single Optional = None
single Any = None
single kind = Some kind

-- the kind of a symbol: the first single kind that is said, and where none is, that of strings and missing fields if it is said
abbrev pub known_kind : List Fact → ℕ → Kinds
known_kind facts s =
    unwrap_or (first_said (λ fact. single (kind_said fact)) s facts)
    (if list_any (λ fact. nat_eq (subject fact) s && includes Optional (kind_said fact)) facts then Optional else Any)
