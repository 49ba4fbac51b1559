-- The effects of the built-in functions on a state (docs/EFFECTS.md, "Effects"): one definition a function or a family, from the
-- demands that come first, by the steps that are taken, to the state after it.
use Rattle.std.specs.Prelude.{ℕ, zero, suc, ◌+◌, ◌-◌, ℤ, pos, negsuc, neg_ℤ, ◌+ℤ◌, ◌-ℤ◌, Bool, true, false, ◌&&◌, ◌||◌, nat_le, if◌then◌else◌, List, [], ◌∷◌, length, codes, Option, None, Some, is_some}
use Rattle.std.specs.Option.{option_map_or}
use Rattle.lin_facts.specs.declared.row.Row.{Row}
use Rattle.lin_facts.specs.declared.row.Term.TheVariants.{Value, Length, Names}
use Rattle.bv_base.specs.declared.limits.TheConstants.{GREATEST_INTEGER}
use Rattle.text_ops.specs.declared.width.TheConstants.{WIDEST_BYTE}
use Rattle.name_split.specs.Patterns.{pattern_ok}
use Rattle.name_table.specs.declared.builtin.Builtin.{Builtin}
use Rattle.name_table.specs.declared.builtin.Builtin.TheVariants as op
use Rattle.name_table.specs.declared.names.NameId.{NameId}
use Rattle.name_table.specs.declared.names.Kind.{Kind}
use Rattle.name_table.specs.declared.names.Kind.TheVariants.{IntEntry, StrEntry, IntGlobal, StrGlobal}
use Rattle.name_table.specs.declared.style.Style.{Style}
use Rattle.bst_meaning.specs.declared.value.TheConstants.{ENTRY_SIZE, GLOBAL_SIZE}
use Rattle.bst_meaning.specs.Builtins.{case_of}
use Rattle.bst_meaning.specs.Operands.{has_32_bits}
use Rattle.bst_meaning.specs.StyleParts.{kind_of}
use Rattle.bst_meaning.specs.declared.condition.Cond.{Cond}
use Rattle.sym_state.specs.declared.demand.DemandKind.TheVariants.{NotVariable, NoEntry, BadCase, NotOneByte, NotAscii, BadNameIndex, BadName, BadPattern, IntRange, WholeStack, WrongKind}
use Rattle.sym_state.specs.declared.hint.Hint.{Hint}
use Rattle.sym_state.specs.State.{State}
use Rattle.sym_state.specs.declared.symbol.Sym.{Sym}
use Rattle.sym_state.specs.declared.symbol.Fact.{Fact}
use Rattle.sym_state.specs.declared.symbol.Fact.TheVariants.{Int as IntFact, Text as TextFact, Nonblank, Wellformed}
use Rattle.sym_state.specs.declared.symbol.Kinds.{Kinds}
use Rattle.sym_state.specs.declared.symbol.Kinds.TheVariants.{Int, Str, Func, Any}
use Rattle.sym_state.specs.Changes.{with_bind}
use Rattle.sym_state.specs.Decided.{Function, ByName, exact_function, exact_integer, exact_text, is_known, is_known_nonblank}
use Rattle.sym_state.specs.Demands.{Outcome, Rule, Gives, Refuses, Demands, OneOperand, TwoOperands, ThreeOperands, Steps, Chooses, BothSteps, fails, is_of_kind, outcome}
use Rattle.sym_state.specs.References.{at_least, at_most, exceeds}
use Rattle.sym_state.specs.Results.{next_of, with_result, with_symbol, with_top, sum_of_two, sum_of_three}
use Rattle.sym_state.specs.WellMade.{size}

-- a demand of an entry
abbrev pub at_entry : State → Rule → Rule
at_entry state next = Demands state.at_entry NoEntry 0 next

-- a demand that an operand is of a kind
abbrev pub of_kind : State → Kinds → ℕ → Sym → Rule → Rule
of_kind state kind operand s next = Demands (is_of_kind state kind s) WrongKind operand next

-- a new string nonblank where it has to be
abbrev pub nonblank_where : Bool → Sym → List Fact
nonblank_where true s = Nonblank s ∷ []
nonblank_where false s = []

-- a new integer that is known
abbrev pub known_integer : ℤ → State → Rule
known_integer n rest = Gives (with_result Int (IntFact (next_of rest) n ∷ []) [] rest)

-- `+` and `-`: the sign is that of the upper operand
abbrev pub exact_sum : Option ℤ → Option ℤ → (ℤ → ℤ → ℤ) → Option ℤ
exact_sum (Some a) (Some b) sum = Some (sum a b)
exact_sum _ _ sum = None

-- a sum that is exactly known has 32 bits; of another, two steps show that it has
abbrev pub summed : ℤ → Sym → Sym → State → Option ℤ → Rule
summed sign a b rest (Some n) = Demands (has_32_bits n) IntRange 0 (known_integer n rest)
summed sign a b rest None =
    let r = next_of rest in
    BothSteps
    (sum_of_two (pos (suc GREATEST_INTEGER)) (pos 1) (Value a.0) sign (Value b.0))
    (sum_of_two (pos GREATEST_INTEGER) (negsuc 0) (Value a.0) (neg_ℤ sign) (Value b.0))
    (fails IntRange 0)
    (Gives (with_result Int [] (
    sum_of_three (pos 0) (pos 1) (Value r.0) (negsuc 0) (Value a.0) (neg_ℤ sign) (Value b.0)
    ∷ sum_of_three (pos 0) (negsuc 0) (Value r.0) (pos 1) (Value a.0) sign (Value b.0)
    ∷ []
    ) rest))

-- the effect of both: two integers are added by a rule
abbrev pub sum : State → ℤ → (ℤ → ℤ → ℤ) → Rule
sum state sign rule =
    TwoOperands Int Int (λ a b rest. summed sign a b rest (exact_sum (exact_integer state.facts a.0) (exact_integer state.facts b.0) rule))

-- `*`: the length is the sum of the lengths; nonblank where an operand is
abbrev pub join : State → Rule
join state = TwoOperands Str Str (λ a b rest.
    let r = next_of rest in
    Gives (with_result Str
    (nonblank_where (is_known_nonblank state.facts a.0 || is_known_nonblank state.facts b.0) r)
    (
    sum_of_three (pos 0) (pos 1) (Length r.0) (negsuc 0) (Length a.0) (negsuc 0) (Length b.0)
    ∷ sum_of_three (pos 0) (negsuc 0) (Length r.0) (pos 1) (Length a.0) (pos 1) (Length b.0)
    ∷ []
    ) rest))

-- `:=`: a string that may be longer than its variable is another one once it is cut
abbrev pub fits_exactly : Option (List ℕ) → ℕ → Bool
fits_exactly found size = option_map_or (λ text. nat_le (length text) size) found false

-- a new string of at most the variable's size is bound to it
abbrev pub cut_bound : NameId → ℕ → State → Rule
cut_bound name size rest =
    let r = next_of rest in Gives (with_bind name r (with_symbol Str [] (at_most (Length r.0) (pos size) ∷ []) rest))

-- a string is bound as it is where it fits, by what is known or by a step, and else cut
abbrev pub string_assigned : State → NameId → ℕ → Sym → State → Rule
string_assigned state name size a rest =
    if fits_exactly (exact_text state.facts a.0) size
    then Gives (with_bind name a rest)
    else Chooses true (at_most (Length a.0) (pos size)) (Gives (with_bind name a rest)) (cut_bound name size rest)

-- the variable's kind says what it takes
abbrev pub assigned : State → Option Kind → NameId → Sym → State → Rule
assigned state (Some IntGlobal) name a rest = of_kind state Int 2 a (Gives (with_bind name a rest))
assigned state (Some StrGlobal) name a rest = of_kind state Str 2 a (string_assigned state name GLOBAL_SIZE a rest)
assigned state (Some IntEntry) name a rest = at_entry state (of_kind state Int 2 a (Gives (with_bind name a rest)))
assigned state (Some StrEntry) name a rest = at_entry state (of_kind state Str 2 a (string_assigned state name ENTRY_SIZE a rest))
assigned state _ name a rest = Refuses NotVariable 1

-- a function by name is the variable
abbrev pub assigned_to : Style → State → Option Function → Sym → State → Rule
assigned_to style state (Some (ByName name)) a rest = assigned state (kind_of style name) name a rest
assigned_to style state _ a rest = Refuses NotVariable 1

-- the effect: the top operand is the variable, the other its value
abbrev pub assign : Style → State → Rule
assign style state = TwoOperands Any Func (λ a f rest. assigned_to style state (exact_function state.facts f.0) a rest)

-- `add.period$`: at most one byte more
abbrev pub add_period : State → Rule
add_period state = OneOperand Str (λ a rest.
    let r = next_of rest in
    Gives (with_result Str (nonblank_where (is_known_nonblank state.facts a.0) r)
    (exceeds (Length r.0) (Length a.0) (pos 0) ∷ exceeds (Length a.0) (Length r.0) (negsuc 0) ∷ []) rest))

-- `purify$` and `change.case$`: no longer than the string
abbrev pub no_longer : Sym → State → Rule
no_longer a rest = Gives (with_result Str [] (exceeds (Length a.0) (Length (next_of rest).0) (pos 0) ∷ []) rest)

-- `change.case$`: the mode is known
abbrev pub is_mode : Option (List ℕ) → Bool
is_mode found = option_map_or (λ text. is_some (case_of text)) found false

-- the effect
abbrev pub change_case : State → Rule
change_case state = TwoOperands Str Str (λ a c rest. Demands (is_mode (exact_text state.facts c.0)) BadCase 1 (no_longer a rest))

-- `chr.to.int$`: the string has one byte
abbrev pub one_byte : Option (List ℕ) → Option ℕ
one_byte (Some (b ∷ [])) = Some b
one_byte _ = None

-- the number of a known byte, and else one from 0 to 255 where two steps show that there is one byte
abbrev pub byte_number : Sym → State → Option ℕ → Rule
byte_number a rest (Some b) = known_integer (pos b) rest
byte_number a rest None =
    let r = next_of rest in
    BothSteps (at_least (Length a.0) (pos 1)) (at_most (Length a.0) (pos 1)) (fails NotOneByte 1)
    (Gives (with_result Int [] (at_least (Value r.0) (pos 0) ∷ at_most (Value r.0) (pos 255) ∷ []) rest))

-- the effect
abbrev pub chr_to_int : State → Rule
chr_to_int state = OneOperand Str (λ a rest. byte_number a rest (one_byte (exact_text state.facts a.0)))

-- `int.to.chr$`: the number is that of an ASCII character
abbrev pub int_to_chr : Rule
int_to_chr = OneOperand Int (λ a rest.
    let r = next_of rest in
    BothSteps (at_least (Value a.0) (pos 0)) (at_most (Value a.0) (pos 127)) (fails NotAscii 1)
    (Gives (with_result Str [] (at_least (Length r.0) (pos 1) ∷ at_most (Length r.0) (pos 1) ∷ []) rest)))

-- `format.name$`: the name is there and well formed, and the pattern is known and well formed
abbrev pub is_pattern : Option (List ℕ) → Bool
is_pattern found = option_map_or pattern_ok found false

-- a name that is there is written by a pattern
abbrev pub named : State → Sym → Sym → State → Rule
named state s p rest =
    Demands (is_known state.facts s.0 (Wellformed s)) BadName 3
    (Demands (is_pattern (exact_text state.facts p.0)) BadPattern 1 (Gives (with_result Str [] [] rest)))

-- the effect: a string, a number of a name in it and a pattern
abbrev pub format_name : State → Rule
format_name state = ThreeOperands Str Int Str (λ s i p rest.
    BothSteps (at_least (Value i.0) (pos 1)) (exceeds (Names s.0) (Value i.0) (pos 0)) (fails BadNameIndex 2) (named state s p rest))

-- `int.to.str$`: at most ten digits and a sign
abbrev pub int_to_str : Rule
int_to_str = OneOperand Int (λ a rest.
    let r = next_of rest in
    Gives (with_result Str (Nonblank r ∷ []) (at_least (Length r.0) (pos 1) ∷ at_most (Length r.0) (pos 11) ∷ []) rest))

-- `num.names$`, `text.length$` and `width$`: a step shows that the number has 32 bits, and two rows say what it is
abbrev pub counted : (Sym → Row) → (Sym → Sym → Row) → (Sym → Sym → Row) → Rule
counted enough first second = OneOperand Str (λ a rest.
    let r = next_of rest in Steps (enough a) (fails IntRange 0) (Gives (with_result Int [] (first a r ∷ second a r ∷ []) rest)))

-- the count of names itself
abbrev pub num_names : Rule
num_names =
    counted (λ a. at_most (Names a.0) (pos GREATEST_INTEGER))
    (λ a r. exceeds (Value r.0) (Names a.0) (pos 0)) (λ a r. exceeds (Names a.0) (Value r.0) (pos 0))

-- no more than the bytes of the string
abbrev pub text_length : Rule
text_length =
    counted (λ a. at_most (Length a.0) (pos GREATEST_INTEGER))
    (λ a r. at_least (Value r.0) (pos 0)) (λ a r. exceeds (Length a.0) (Value r.0) (pos 0))

-- no more than the widest byte for each byte of the string
abbrev pub width : Rule
width =
    counted (λ a. sum_of_two (pos GREATEST_INTEGER) (neg_ℤ (pos WIDEST_BYTE)) (Length a.0) (pos 0) (Length a.0))
    (λ a r. at_least (Value r.0) (pos 0)) (λ a r. sum_of_two (pos 0) (pos WIDEST_BYTE) (Length a.0) (negsuc 0) (Value r.0))

-- `substring$`: a result is no longer than a known length, and empty where that is below 0
abbrev pub at_most_known : Option ℤ → Sym → List Row
at_most_known None r = []
at_most_known (Some (pos n)) r = at_most (Length r.0) (pos n) ∷ []
at_most_known (Some (negsuc n)) r = at_most (Length r.0) (pos 0) ∷ []

-- a start that is known and isn't 0
abbrev pub is_start : Option ℤ → Bool
is_start (Some (pos zero)) = false
is_start (Some start) = true
is_start None = false

-- a length that is known and above 0
abbrev pub is_length : Option ℤ → Bool
is_length (Some (pos (suc n))) = true
is_length _ = false

-- how great a known integer is
abbrev pub known_size : Option ℤ → ℕ
known_size found = option_map_or size found 0

-- a new string of this length
abbrev pub of_length : ℕ → State → Rule
of_length count rest =
    let r = next_of rest in
    Gives (with_result Str [] (at_least (Length r.0) (pos count) ∷ at_most (Length r.0) (pos count) ∷ []) rest)

-- a new string that is no longer than another, nor than a length that is known
abbrev pub shorter : Sym → Option ℤ → State → Rule
shorter a len rest =
    let r = next_of rest in Gives (with_result Str [] (exceeds (Length a.0) (Length r.0) (pos 0) ∷ at_most_known len r) rest)

-- the effect on a string: where the start and the length are known, a step shows that the string is long enough
abbrev pub substring_of : Sym → Option ℤ → Option ℤ → State → Rule
substring_of a start len rest =
    Chooses (is_start start && is_length len) (at_least (Length a.0) (pos (known_size start + known_size len - 1)))
    (of_length (known_size len) rest) (shorter a len rest)

-- the effect: a string, a start and a length
abbrev pub substring : State → Rule
substring state = ThreeOperands Str Int Int (λ a b c rest. substring_of a (exact_integer state.facts b.0) (exact_integer state.facts c.0) rest)

-- `cite$` and `preamble$`: no longer than the condition says
abbrev pub limited : ℕ → State → Rule
limited limit state = Gives (with_result Str [] (at_most (Length (next_of state).0) (pos limit) ∷ []) state)

-- a string is written or logged
abbrev pub string_taken : Rule
string_taken = OneOperand Str (λ a rest. Gives rest)

-- a value is dropped
abbrev pub taken : Rule
taken = OneOperand Any (λ a rest. Gives rest)

-- the built-in functions that are neither a test nor enter a function
abbrev pub is_plain : Builtin → Bool
is_plain op.Equal = false
is_plain op.Greater = false
is_plain op.Less = false
is_plain op.Empty = false
is_plain op.Missing = false
is_plain op.CallType = false
is_plain op.IfElse = false
is_plain op.WhileDo = false
is_plain _ = true

-- what each of them does to a state
abbrev pub rule_of : Style → Cond → State → Builtin → Rule
rule_of style cond state op.Plus = sum state (pos 1) (λ a b. a +ℤ b)
rule_of style cond state op.Minus = sum state (negsuc 0) (λ a b. a -ℤ b)
rule_of style cond state op.Join = join state
rule_of style cond state op.Assign = assign style state
rule_of style cond state op.AddPeriod = add_period state
rule_of style cond state op.ChangeCase = change_case state
rule_of style cond state op.ChrToInt = chr_to_int state
rule_of style cond state op.Cite = at_entry state (limited cond.key state)
rule_of style cond state op.Duplicate = OneOperand Any (λ a rest. Gives (with_top a state))
rule_of style cond state op.FormatName = format_name state
rule_of style cond state op.IntToChr = int_to_chr
rule_of style cond state op.IntToStr = int_to_str
rule_of style cond state op.Newline = Gives state
rule_of style cond state op.NumNames = num_names
rule_of style cond state op.Pop = taken
rule_of style cond state op.Preamble = limited cond.preamble state
rule_of style cond state op.Purify = OneOperand Str no_longer
rule_of style cond state op.Quote = Gives (with_result Str (TextFact (next_of state) (codes "\"") ∷ []) [] state)
rule_of style cond state op.Skip = Gives state
rule_of style cond state op.Stack = Demands state.whole WholeStack 0 (Gives (record state { stack = [] }))
rule_of style cond state op.Substring = substring state
rule_of style cond state op.Swap = TwoOperands Any Any (λ a b rest. Gives (with_top a (with_top b rest)))
rule_of style cond state op.TextLength = text_length
rule_of style cond state op.TextPrefix = TwoOperands Str Int (λ a n rest. Gives (with_result Str [] [] rest))
rule_of style cond state op.Top = taken
rule_of style cond state op.TypeName = at_entry state (Gives (with_result Str [] [] state))
rule_of style cond state op.Warning = string_taken
rule_of style cond state op.Width = width
rule_of style cond state op.Write = string_taken
rule_of style cond state _ = Refuses WrongKind 0

-- their effects
abbrev pub effect_of : Style → Cond → State → Builtin → List Hint → Outcome
effect_of style cond state op hints = outcome cond state (rule_of style cond state op) hints
