-- What a fact says of a value (docs/STATES.md, "Facts").
use Rattle.std.specs.Prelude.{◌≡◌, ℕ, Bool, true, false, Option, None, Some}
use Rattle.name_split.specs.AllParts.{names_ok}
use Rattle.name_table.specs.Sound.{block_of}
use Rattle.name_table.specs.declared.style.Style.{Style}
use Rattle.text_ops.specs.Blank.{blank}
use Rattle.bst_meaning.specs.declared.value.Target.TheVariants.{Named, Block as BlockTarget}
use Rattle.bst_meaning.specs.declared.value.Value.{Value}
use Rattle.bst_meaning.specs.declared.value.Value.TheVariants.{Int as IntValue, Str as StrValue, Missing as MissingValue, Func as FuncValue}
use Rattle.sym_state.specs.declared.symbol.Kinds.{Kinds}
use Rattle.sym_state.specs.declared.symbol.Kinds.TheVariants.{Int as IntKind, Str, Missing, Optional, Func, Any}
use Rattle.sym_state.specs.declared.symbol.Fact.{Fact}
use Rattle.sym_state.specs.declared.symbol.Fact.TheVariants.{Is, Int, Text, Call, Block, Blank, Nonblank, Wellformed}
use Rattle.sym_state.specs.Symbols.{Valuation}

-- the value is of the kind
abbrev pub has_kind : Kinds → Value → Bool
has_kind IntKind (IntValue n) = true
has_kind Str (StrValue bytes) = true
has_kind Missing (MissingValue name) = true
has_kind Optional (StrValue bytes) = true
has_kind Optional (MissingValue name) = true
has_kind Func (FuncValue target) = true
has_kind Any value = true
has_kind _ value = false

-- what `empty$` says of a value: that it is empty, or that it isn't, or nothing where the kind is wrong
abbrev pub emptiness : Value → Option Bool
emptiness (StrValue bytes) = Some (blank bytes)
emptiness (MissingValue name) = Some true
emptiness _ = None

-- each name of the value is well formed; what is no string has no names
abbrev pub has_good_names : Value → Bool
has_good_names (StrValue bytes) = names_ok bytes
has_good_names _ = true

-- the value is the block of this number
abbrev pub IsBlock : Style → ℕ → Value → Type 0
IsBlock style number (FuncValue (BlockTarget body)) = block_of body style.bodies ≡ Some (Some number)
IsBlock style number _ = ⊥

-- the symbol that a fact is about
abbrev pub subject : Fact → ℕ
subject (Is s kind) = s.0
subject (Int s n) = s.0
subject (Text s text) = s.0
subject (Call s name) = s.0
subject (Block s number) = s.0
subject (Blank s) = s.0
subject (Nonblank s) = s.0
subject (Wellformed s) = s.0

-- what a fact says of the value of its symbol
abbrev pub Says : Style → Fact → Value → Type 0
Says style (Is s kind) value = has_kind kind value ≡ true
Says style (Int s n) value = value ≡ IntValue n
Says style (Text s text) value = value ≡ StrValue text
Says style (Call s name) value = value ≡ FuncValue (Named name)
Says style (Block s number) value = IsBlock style number value
Says style (Blank s) value = emptiness value ≡ Some true
Says style (Nonblank s) value = emptiness value ≡ Some false
Says style (Wellformed s) value = has_good_names value ≡ true

-- what a fact says of the value that its symbol stands for
abbrev pub FactHolds : Style → Valuation → Fact → Type 0
FactHolds style v fact = Says style fact (v.value (subject fact))
