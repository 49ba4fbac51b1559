-- What a built-in function does (docs/MACHINE.md, "The built-in functions"): from the literal stack, its top first, and what
-- surrounds the call, to its effect or its fault. One definition a function or a family.
use Rattle.std.specs.Prelude.{ℕ, ℤ, pos, negsuc, ◌+ℤ◌, ◌-ℤ◌, Bool, true, ◌||◌, nat_le, nat_lt, nat_eq, if◌then◌else◌, List, [], ◌∷◌, ◌++◌, length, map, take, codes, Option, None, Some, is_none, Result, Ok, Err, slice_get}
use Rattle.std.specs.Option.{option_map_or}
use Rattle.std.specs.Cmp.Lexicographic.{pointwise}
use Rattle.std.specs.Fmt.{decimal}
use Rattle.name_table.specs.declared.builtin.Builtin.{Builtin}
use Rattle.name_table.specs.declared.builtin.Builtin.TheVariants as op
use Rattle.name_table.specs.declared.names.NameId.{NameId}
use Rattle.name_table.specs.declared.names.Kind.{Kind}
use Rattle.name_table.specs.declared.names.Kind.TheVariants.{IntEntry, StrEntry, IntGlobal, StrGlobal}
use Rattle.name_table.specs.declared.style.BodyId.{BodyId}
use Rattle.name_table.specs.declared.style.Style.{Style}
use Rattle.name_table.specs.declared.style.TypeTarget.{TypeTarget}
use Rattle.name_table.specs.declared.style.TypeTarget.TheVariants.{Function, Default, Skip}
use Rattle.name_table.specs.Names.{text_at}
use Rattle.name_table.specs.Opening.{skip}
use Rattle.name_table.specs.TypeTarget.{target_of, type_function}
use Rattle.name_split.specs.Names.{names_of}
use Rattle.name_split.specs.Formatted.{Misfit, formatted}
use Rattle.name_split.specs.Formatted as misfit
use Rattle.text_ops.specs.declared.change_case.Case.{Case}
use Rattle.text_ops.specs.declared.change_case.Case.TheVariants.{Title, Lower, Upper}
use Rattle.text_ops.specs.AddPeriod.{with_period}
use Rattle.text_ops.specs.Blank.{blank}
use Rattle.text_ops.specs.ChangeCase.{case_changed}
use Rattle.text_ops.specs.IntToStr.{numeral}
use Rattle.text_ops.specs.Purify.{purified}
use Rattle.text_ops.specs.Substring.{substring_of}
use Rattle.text_ops.specs.TextLength.{text_length_of}
use Rattle.text_ops.specs.TextPrefix.{text_prefix_of}
use Rattle.text_ops.specs.Width.{width_of}
use Rattle.bst_meaning.specs.EntryLists.{Entry}
use Rattle.bst_meaning.specs.declared.value.TheConstants.{ENTRY_SIZE, GLOBAL_SIZE}
use Rattle.bst_meaning.specs.declared.value.Target.{Target}
use Rattle.bst_meaning.specs.declared.value.Target.TheVariants.{Named, Block}
use Rattle.bst_meaning.specs.declared.value.Value.{Value}
use Rattle.bst_meaning.specs.declared.value.Value.TheVariants.{Int, Str, Missing, Func}
use Rattle.bst_meaning.specs.declared.fault.Fault.{Fault}
use Rattle.bst_meaning.specs.declared.fault.Fault.TheVariants.{WrongKind, NotVariable, NoEntry, BadCase, NotOneByte, NotAscii, BadNameIndex, BadName, BadPattern}
use Rattle.bst_meaning.specs.StyleParts.{kind_of}
use Rattle.bst_meaning.specs.Config.{Wrote, EndedLine, Whole, Testing}
use Rattle.bst_meaning.specs.Effect.{Effect, left, pushed, with_written, with_logged, with_entered}
use Rattle.bst_meaning.specs.Operands.{one_operand, two_operands, three_operands, as_string, as_integer, as_function, as_field, ranged, truth, is_positive, is_zero}

-- what surrounds a call: the style, the database's preamble, and the visited entry, if one is visited
pub record Context : Type 0 where
  pub style : Style
  pub preamble : List ℕ
  pub entry : Option Entry

-- `=`: two integers or two strings
abbrev pub equal : Value → Value → List Value → Result Effect Fault
equal (Int a) (Int b) stack = pushed (truth (is_zero (a -ℤ b))) stack
equal (Str a) (Str b) stack = pushed (truth (pointwise nat_eq a b)) stack
equal _ _ stack = Err WrongKind

-- two integers, the top one's kind first
abbrev pub integers : (ℤ → ℤ → List Value → Result Effect Fault) → List Value → Result Effect Fault
integers rule stack = two_operands stack (λ a b rest. as_integer b (λ y. as_integer a (λ x. rule x y rest)))

-- one string
abbrev pub string : (List ℕ → List Value → Result Effect Fault) → List Value → Result Effect Fault
string rule stack = one_operand stack (λ a rest. as_string a (λ x. rule x rest))

-- `*`: two strings joined, the lower one first
abbrev pub join : List Value → Result Effect Fault
join stack = two_operands stack (λ a b rest. as_string b (λ y. as_string a (λ x. pushed (Str (x ++ y)) rest)))

-- `change.case$`: the mode is one byte of `tTlLuU`
abbrev pub case_of_byte : ℕ → Option Case
case_of_byte b =
    if (nat_eq b 116 || nat_eq b 84) then Some Title
    else if (nat_eq b 108 || nat_eq b 76) then Some Lower
    else if (nat_eq b 117 || nat_eq b 85) then Some Upper
    else None

-- the way of changing case that a string names, which has one byte
abbrev pub case_of : List ℕ → Option Case
case_of (b ∷ []) = case_of_byte b
case_of _ = None

-- a string with its case changed so
abbrev pub change_case_in : Option Case → List ℕ → List Value → Result Effect Fault
change_case_in None bytes stack = Err BadCase
change_case_in (Some mode) bytes stack = pushed (Str (case_changed mode bytes)) stack

-- `change.case$`: the second operand names the way
abbrev pub change_case : List Value → Result Effect Fault
change_case stack =
    two_operands stack (λ a b rest. as_string b (λ mode. as_string a (λ bytes. change_case_in (case_of mode) bytes rest)))

-- `chr.to.int$`: the number of a string's one byte
abbrev pub byte_number : List ℕ → List Value → Result Effect Fault
byte_number (b ∷ []) stack = pushed (Int (pos b)) stack
byte_number _ stack = Err NotOneByte

-- `int.to.chr$`: the string of the byte with this number
abbrev pub byte_string : ℤ → List Value → Result Effect Fault
byte_string (pos n) stack = if nat_lt n 128 then pushed (Str (n ∷ [])) stack else Err NotAscii
byte_string (negsuc n) stack = Err NotAscii

-- `empty$`: a missing field, or only white space
abbrev pub is_empty : Option (List ℕ) → Bool
is_empty None = true
is_empty (Some bytes) = blank bytes

-- `substring$`
abbrev pub substring : List Value → Result Effect Fault
substring stack = three_operands stack (λ a b c rest.
    as_integer c (λ len. as_integer b (λ start. as_string a (λ bytes. pushed (Str (substring_of bytes start len)) rest))))

-- `text.prefix$`
abbrev pub text_prefix : List Value → Result Effect Fault
text_prefix stack = two_operands stack (λ a b rest.
    as_integer b (λ count. as_string a (λ bytes. pushed (Str (text_prefix_of bytes count)) rest)))

-- `format.name$`: the name of a text with this number, by a pattern
abbrev pub misfit_fault : Misfit → Fault
misfit_fault misfit.BadNameIndex = BadNameIndex
misfit_fault misfit.BadName = BadName
misfit_fault misfit.BadPattern = BadPattern

-- a formatted name, or the fault that there is none
abbrev pub pushed_name : Result (List ℕ) Misfit → List Value → Result Effect Fault
pushed_name (Ok text) stack = pushed (Str text) stack
pushed_name (Err reason) stack = Err (misfit_fault reason)

-- `format.name$`: a text, the number of a name in it, and a pattern
abbrev pub format_name : List Value → Result Effect Fault
format_name stack = three_operands stack (λ a b c rest.
    as_string c (λ pattern. as_integer b (λ index. as_string a (λ text. pushed_name (formatted text index pattern) rest))))

-- `if$`: the first function where the integer is above 0, else the second
abbrev pub if_else : List Value → Result Effect Fault
if_else stack = three_operands stack (λ a b c rest.
    as_function c (λ other. as_function b (λ first. as_integer a (λ n.
    with_entered (if is_positive n then first else other) Whole rest))))

-- `while$`: the test is entered
abbrev pub while_do : List Value → Result Effect Fault
while_do stack = two_operands stack (λ a b rest.
    as_function b (λ body. as_function a (λ test. with_entered test (Testing test body) rest)))

-- how a value is logged
abbrev pub block_number : Style → BodyId → List ℕ
block_number style body = option_map_or (λ b. option_map_or decimal b.block []) (slice_get style.bodies body.0) []

-- the bytes of a name
abbrev pub name_text : Style → NameId → List ℕ
name_text style name = option_map_or (λ bytes. bytes) (text_at name style.names) []

-- a value as a line of the log shows it
abbrev pub shown : Style → Value → List ℕ
shown style (Int n) = numeral n
shown style (Str bytes) = bytes
shown style (Missing name) = codes "missing " ++ name_text style name
shown style (Func (Named name)) = codes "function " ++ name_text style name
shown style (Func (Block body)) = codes "block " ++ block_number style body

-- a string for a variable of a size: cut to the size, with a warning
abbrev pub warning : List ℕ → List ℕ
warning text = codes "Warning--" ++ text

-- the line that tells that a string was cut to so many bytes
abbrev pub cut_warning : Style → NameId → ℕ → List ℕ
cut_warning style name size = warning (codes "cut " ++ (name_text style name ++ (codes " to " ++ decimal size)))

-- a string is assigned, cut to so many bytes where it is longer
abbrev pub assigned_string : Style → NameId → ℕ → List ℕ → List Value → Result Effect Fault
assigned_string style name size bytes stack =
    if nat_le (length bytes) size
    then Ok (record (left stack) { assigned = Some (record { name = name; value = Str bytes }) })
    else Ok (record (left stack) { assigned = Some (record { name = name; value = Str (take size bytes) }); logged = cut_warning style name size ∷ [] })

-- an integer is assigned
abbrev pub assigned_integer : NameId → ℤ → List Value → Result Effect Fault
assigned_integer name n stack = Ok (record (left stack) { assigned = Some (record { name = name; value = Int n }) })

-- an entry variable wants a visited entry
abbrev pub at_entry : Option Entry → (Entry → Result Effect Fault) → Result Effect Fault
at_entry None rule = Err NoEntry
at_entry (Some entry) rule = rule entry

-- `:=` of a value to what the function names, by its kind
abbrev pub assign_to : Context → Option Kind → NameId → Value → List Value → Result Effect Fault
assign_to context (Some IntGlobal) name value stack = as_integer value (λ n. assigned_integer name n stack)
assign_to context (Some StrGlobal) name value stack = as_string value (λ bytes. assigned_string context.style name GLOBAL_SIZE bytes stack)
assign_to context (Some IntEntry) name value stack = at_entry context.entry (λ _. as_integer value (λ n. assigned_integer name n stack))
assign_to context (Some StrEntry) name value stack =
    at_entry context.entry (λ _. as_string value (λ bytes. assigned_string context.style name ENTRY_SIZE bytes stack))
assign_to context _ name value stack = Err NotVariable

-- a value is assigned to what is named; a block isn't a variable
abbrev pub assign_target : Context → Target → Value → List Value → Result Effect Fault
assign_target context (Named name) value stack = assign_to context (kind_of context.style name) name value stack
assign_target context (Block body) value stack = Err NotVariable

-- `:=`
abbrev pub assign : Context → List Value → Result Effect Fault
assign context stack = two_operands stack (λ value target rest.
    as_function target (λ t. assign_target context t value rest))

-- `call.type$`: the type's function, else `default.type`, else `skip$`
abbrev pub type_entered : TypeTarget → NameId
type_entered (Function name) = name
type_entered (Default name) = name
type_entered Skip = skip

-- `type$`: the type's name where the style defines it
abbrev pub type_name : Style → List ℕ → List ℕ
type_name style entry_type = if is_none (type_function entry_type style) then [] else entry_type

-- what each built-in function does
abbrev pub built_in : Builtin → Context → List Value → Result Effect Fault
built_in op.Equal context stack = two_operands stack equal
built_in op.Greater context stack = integers (λ a b rest. pushed (truth (is_positive (a -ℤ b))) rest) stack
built_in op.Less context stack = integers (λ a b rest. pushed (truth (is_positive (b -ℤ a))) rest) stack
built_in op.Plus context stack = integers (λ a b rest. ranged (a +ℤ b) rest) stack
built_in op.Minus context stack = integers (λ a b rest. ranged (a -ℤ b) rest) stack
built_in op.Join context stack = join stack
built_in op.Assign context stack = assign context stack
built_in op.AddPeriod context stack = string (λ a rest. pushed (Str (with_period a)) rest) stack
built_in op.CallType context stack =
    at_entry context.entry (λ e. with_entered (Named (type_entered (target_of e.entry_type context.style))) Whole stack)
built_in op.ChangeCase context stack = change_case stack
built_in op.ChrToInt context stack = string byte_number stack
built_in op.Cite context stack = at_entry context.entry (λ e. pushed (Str e.key) stack)
built_in op.Duplicate context stack = one_operand stack (λ a rest. pushed a (a ∷ rest))
built_in op.Empty context stack = one_operand stack (λ a rest. as_field a (λ bytes. pushed (truth (is_empty bytes)) rest))
built_in op.FormatName context stack = format_name stack
built_in op.IfElse context stack = if_else stack
built_in op.IntToChr context stack = one_operand stack (λ a rest. as_integer a (λ n. byte_string n rest))
built_in op.IntToStr context stack = one_operand stack (λ a rest. as_integer a (λ n. pushed (Str (numeral n)) rest))
built_in op.Missing context stack = one_operand stack (λ a rest. as_field a (λ bytes. pushed (truth (is_none bytes)) rest))
built_in op.Newline context stack = with_written EndedLine stack
built_in op.NumNames context stack = string (λ a rest. ranged (pos (length (names_of a))) rest) stack
built_in op.Pop context stack = one_operand stack (λ a rest. Ok (left rest))
built_in op.Preamble context stack = pushed (Str context.preamble) stack
built_in op.Purify context stack = string (λ a rest. pushed (Str (purified a)) rest) stack
built_in op.Quote context stack = pushed (Str (codes "\"")) stack
built_in op.Skip context stack = Ok (left stack)
built_in op.Stack context stack = with_logged (map (shown context.style) stack) []
built_in op.Substring context stack = substring stack
built_in op.Swap context stack = two_operands stack (λ a b rest. Ok (left (a ∷ b ∷ rest)))
built_in op.TextLength context stack = string (λ a rest. ranged (pos (text_length_of a)) rest) stack
built_in op.TextPrefix context stack = text_prefix stack
built_in op.Top context stack = one_operand stack (λ a rest. with_logged (shown context.style a ∷ []) rest)
built_in op.TypeName context stack = at_entry context.entry (λ e. pushed (Str (type_name context.style e.entry_type)) stack)
built_in op.Warning context stack = string (λ a rest. with_logged (warning a ∷ []) rest) stack
built_in op.WhileDo context stack = while_do stack
built_in op.Width context stack = string (λ a rest. ranged (pos (width_of a)) rest) stack
built_in op.Write context stack = string (λ a rest. with_written (Wrote a) rest) stack
