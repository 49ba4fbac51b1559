-- Plain built-in functions enter nothing, and `:=` alone assigns.
use Rattle.std.proofs.Common.{◌≡◌, ℕ, ℤ, pos, negsuc, Bool, true, false, List, [], ◌∷◌, Option, Some, None, Result, Ok, Err, nat_le, nat_lt, length, take, refl, sym, subst}
use Rattle.std.specs.List.{AllByRecursion}
use Rattle.std.specs.Option.{IfSome}
use Rattle.std.specs.Prelude.{◌+ℤ◌, ◌-ℤ◌}
use Rattle.std.specs.Result.{IfOk}
use Rattle.name_table.specs.declared.builtin.Builtin.{Builtin}
use Rattle.name_table.specs.declared.builtin.Builtin.TheVariants as op
use Rattle.name_table.specs.declared.names.Kind.{Kind}
use Rattle.name_table.specs.declared.names.Kind.TheVariants.{Builtin as BuiltinKind, Wizard, Field, IntEntry, StrEntry, IntGlobal, StrGlobal}
use Rattle.name_table.specs.declared.names.NameId.{NameId}
use Rattle.name_table.specs.declared.style.Style.{Style}
use Rattle.name_split.specs.Formatted.{Misfit, formatted}
use Rattle.name_split.specs.Names.{names_of}
use Rattle.text_ops.specs.TextLength.{text_length_of}
use Rattle.text_ops.specs.Width.{width_of}
use Rattle.text_ops.specs.declared.change_case.Case.{Case}
use Rattle.bst_meaning.specs.declared.fault.Fault.{Fault}
use Rattle.bst_meaning.specs.declared.fault.Fault.TheVariants.{IntRange, NotAscii}
use Rattle.bst_meaning.specs.declared.value.TheConstants.{ENTRY_SIZE, GLOBAL_SIZE}
use Rattle.bst_meaning.specs.declared.value.Target.{Target}
use Rattle.bst_meaning.specs.declared.value.Target.TheVariants.{Named, Block}
use Rattle.bst_meaning.specs.declared.value.Value.{Value}
use Rattle.bst_meaning.specs.declared.value.Value.TheVariants.{Int, Str, Missing, Func}
use Rattle.bst_meaning.specs.Builtins.{Context, assign, assign_target, assign_to, assigned_integer, assigned_string, built_in, byte_number, byte_string, case_of, change_case_in, cut_warning, equal, integers, pushed_name, string}
use Rattle.bst_meaning.specs.Config.{Part, Variable}
use Rattle.bst_meaning.specs.Effect.{Effect, left, pushed, with_entered}
use Rattle.bst_meaning.specs.Keeping.{IsConfined, is_assign, is_plain, name_on_top}
use Rattle.bst_meaning.specs.Operands.{as_function, has_32_bits, ranged}
use Rattle.bst_meaning.specs.StyleParts.{kind_of}
use Rattle.bst_meaning.proofs.Giving.{either, of_entry, of_field, of_function, of_integer, of_string, one, three, two}

-- nothing is asked of the values on the stack
abbrev Any : Value → Type 0
Any value = Unit {0}

any : (stack : List Value) → AllByRecursion Any stack
any [] = tt
any (value ∷ stack) = (tt, any stack)

-- an effect that enters and assigns nothing
abbrev IsSilent : Effect → Type 0
IsSilent effect = (effect.entered ≡ None) × (effect.assigned ≡ None)

quiet : (o : Builtin) (stack : List Value) (r : Result Effect Fault) → IfOk r IsSilent → IfOk r (IsConfined o stack)
quiet o stack (Err fault) h = tt
quiet o stack (Ok effect) h = record {
  entered = λ plain. h.0;
  assigned = subst (λ (v : Option Variable). IfSome v (λ new. (is_assign o ≡ true) × (name_on_top stack ≡ Some new.name))) (sym h.1) tt;
}

just : (o : Builtin) (stack : List Value) (effect : Effect) → effect.entered ≡ None → effect.assigned ≡ None → IsConfined o stack effect
just o stack effect entered assigned = quiet o stack (Ok effect) (entered, assigned)

ranged_silent : (n : ℤ) (stack : List Value) → IfOk (ranged n stack) IsSilent
ranged_silent n stack = either IsSilent (has_32_bits n) (pushed (Int n) stack) (Err IntRange) (refl, refl) tt

equal_silent : (a b : Value) (stack : List Value) → IfOk (equal a b stack) IsSilent
equal_silent (Int a) (Int b) stack = (refl, refl)
equal_silent (Str a) (Str b) stack = (refl, refl)
equal_silent _ _ stack = tt

case_silent : (mode : Option Case) (bytes : List ℕ) (stack : List Value) → IfOk (change_case_in mode bytes stack) IsSilent
case_silent None bytes stack = tt
case_silent (Some mode) bytes stack = (refl, refl)

number_silent : (bytes : List ℕ) (stack : List Value) → IfOk (byte_number bytes stack) IsSilent
number_silent (b ∷ []) stack = (refl, refl)
number_silent _ stack = tt

byte_silent : (n : ℤ) (stack : List Value) → IfOk (byte_string n stack) IsSilent
byte_silent (pos n) stack = either IsSilent (nat_lt n 128) (pushed (Str (n ∷ [])) stack) (Err NotAscii) (refl, refl) tt
byte_silent (negsuc n) stack = tt

name_silent : (r : Result (List ℕ) Misfit) (stack : List Value) → IfOk (pushed_name r stack) IsSilent
name_silent (Ok text) stack = (refl, refl)
name_silent (Err reason) stack = tt

-- a function on one string, and on two integers
string_silent : (stack : List Value) (rule : List ℕ → List Value → Result Effect Fault)
    → ((bytes : List ℕ) (rest : List Value) → IfOk (rule bytes rest) IsSilent)
    → IfOk (string rule stack) IsSilent
string_silent stack rule h =
    one Any IsSilent stack _ (any stack) (λ a rest q all. of_string Any IsSilent a _ q (λ bytes r. h bytes rest))

integers_silent : (stack : List Value) (rule : ℤ → ℤ → List Value → Result Effect Fault)
    → ((x y : ℤ) (rest : List Value) → IfOk (rule x y rest) IsSilent)
    → IfOk (integers rule stack) IsSilent
integers_silent stack rule h =
    two Any IsSilent stack _ (any stack)
    (λ a b rest p q all. of_integer Any IsSilent b _ q (λ y r. of_integer Any IsSilent a _ p (λ x s. h x y rest)))

-- what `:=` assigns is named on top
string_confined : (style : Style) (name : NameId) (size : ℕ) (bytes : List ℕ) (below rest : List Value)
    → IfOk (assigned_string style name size bytes rest) (IsConfined op.Assign (Func (Named name) ∷ below))
string_confined style name size bytes below rest =
    let whole : Effect = record (left rest) { assigned = Some (record { name = name; value = Str bytes }) } in
    let cut : Effect = record (left rest) { assigned = Some (record { name = name; value = Str (take size bytes) }); logged = cut_warning style name size ∷ [] } in
    either (IsConfined op.Assign (Func (Named name) ∷ below)) (nat_le (length bytes) size) (Ok whole) (Ok cut)
    (record { entered = λ plain. refl; assigned = (refl, refl) }) (record { entered = λ plain. refl; assigned = (refl, refl) })

integer_confined : (name : NameId) (n : ℤ) (below rest : List Value)
    → IfOk (assigned_integer name n rest) (IsConfined op.Assign (Func (Named name) ∷ below))
integer_confined name n below rest = record { entered = λ plain. refl; assigned = (refl, refl) }

assign_confined : (context : Context) (kind : Option Kind) (name : NameId) (value : Value) (below rest : List Value)
    → IfOk (assign_to context kind name value rest) (IsConfined op.Assign (Func (Named name) ∷ below))
assign_confined context (Some IntGlobal) name value below rest =
    of_integer Any (IsConfined op.Assign (Func (Named name) ∷ below)) value _ tt (λ n q. integer_confined name n below rest)
assign_confined context (Some StrGlobal) name value below rest =
    of_string Any (IsConfined op.Assign (Func (Named name) ∷ below)) value _ tt (λ bytes q. string_confined context.style name GLOBAL_SIZE bytes below rest)
assign_confined context (Some IntEntry) name value below rest =
    of_entry (IsConfined op.Assign (Func (Named name) ∷ below)) context.entry _
    (λ e. of_integer Any (IsConfined op.Assign (Func (Named name) ∷ below)) value _ tt (λ n q. integer_confined name n below rest))
assign_confined context (Some StrEntry) name value below rest =
    of_entry (IsConfined op.Assign (Func (Named name) ∷ below)) context.entry _
    (λ e. of_string Any (IsConfined op.Assign (Func (Named name) ∷ below)) value _ tt (λ bytes q. string_confined context.style name ENTRY_SIZE bytes below rest))
assign_confined context (Some Field) name value below rest = tt
assign_confined context (Some (BuiltinKind o)) name value below rest = tt
assign_confined context (Some (Wizard body)) name value below rest = tt
assign_confined context None name value below rest = tt

named_confined : (context : Context) (target value : Value) (rest : List Value)
    → IfOk (as_function target (λ t. assign_target context t value rest)) (IsConfined op.Assign (target ∷ value ∷ rest))
named_confined context (Func (Named name)) value rest = assign_confined context (kind_of context.style name) name value (value ∷ rest) rest
named_confined context (Func (Block body)) value rest = tt
named_confined context (Int n) value rest = tt
named_confined context (Str bytes) value rest = tt
named_confined context (Missing name) value rest = tt

all_confined : (context : Context) (stack : List Value) → IfOk (assign context stack) (IsConfined op.Assign stack)
all_confined context [] = tt
all_confined context (target ∷ []) = tt
all_confined context (target ∷ value ∷ rest) = named_confined context target value rest

not_both : {X : Type 0} (t : Bool) → t ≡ false → t ≡ true → X
not_both true e f = absurd (cc)
not_both false e f = absurd (cc)

-- what enters a function isn't plain
entering : (o : Builtin) (target : Target) (part : Part) (below stack : List Value) → is_plain o ≡ false
    → IfOk (with_entered target part stack) (IsConfined o below)
entering o target part below stack e = record { entered = λ plain. not_both (is_plain o) e plain; assigned = tt }

pub confined : (o : Builtin) (context : Context) (stack : List Value) → IfOk (built_in o context stack) (IsConfined o stack)
confined op.Equal context stack = quiet op.Equal stack _ (two Any IsSilent stack _ (any stack) (λ a b rest p q all. equal_silent a b rest))
confined op.Greater context stack = quiet op.Greater stack _ (integers_silent stack _ (λ x y rest. (refl, refl)))
confined op.Less context stack = quiet op.Less stack _ (integers_silent stack _ (λ x y rest. (refl, refl)))
confined op.Plus context stack = quiet op.Plus stack _ (integers_silent stack _ (λ x y rest. ranged_silent (x +ℤ y) rest))
confined op.Minus context stack = quiet op.Minus stack _ (integers_silent stack _ (λ x y rest. ranged_silent (x -ℤ y) rest))
confined op.Join context stack =
    quiet op.Join stack _ (two Any IsSilent stack _ (any stack)
    (λ a b rest p q all. of_string Any IsSilent b _ q (λ y r. of_string Any IsSilent a _ p (λ x s. (refl, refl)))))
confined op.Assign context stack = all_confined context stack
confined op.AddPeriod context stack = quiet op.AddPeriod stack _ (string_silent stack _ (λ bytes rest. (refl, refl)))
confined op.CallType context stack = of_entry (IsConfined op.CallType stack) context.entry _ (λ e. entering op.CallType _ _ stack stack refl)
confined op.ChangeCase context stack =
    quiet op.ChangeCase stack _ (two Any IsSilent stack _ (any stack)
    (λ a b rest p q all. of_string Any IsSilent b _ q (λ mode r. of_string Any IsSilent a _ p (λ bytes s. case_silent (case_of mode) bytes rest))))
confined op.ChrToInt context stack = quiet op.ChrToInt stack _ (string_silent stack _ (λ bytes rest. number_silent bytes rest))
confined op.Cite context stack = quiet op.Cite stack _ (of_entry IsSilent context.entry _ (λ e. (refl, refl)))
confined op.Duplicate context stack = quiet op.Duplicate stack _ (one Any IsSilent stack _ (any stack) (λ a rest q all. (refl, refl)))
confined op.Empty context stack =
    quiet op.Empty stack _ (one Any IsSilent stack _ (any stack) (λ a rest q all. of_field Any IsSilent a _ (λ field. (refl, refl))))
confined op.FormatName context stack =
    quiet op.FormatName stack _ (three Any IsSilent stack _ (any stack)
    (λ a b c rest p q r all. of_string Any IsSilent c _ r (λ pattern t. of_integer Any IsSilent b _ q (λ index u. of_string Any IsSilent a _ p
    (λ text v. name_silent (formatted text index pattern) rest)))))
confined op.IfElse context stack =
    three Any (IsConfined op.IfElse stack) stack _ (any stack)
    (λ a b c rest p q r all. of_function Any (IsConfined op.IfElse stack) c _ r (λ other t. of_function Any (IsConfined op.IfElse stack) b _ q
    (λ first u. of_integer Any (IsConfined op.IfElse stack) a _ p (λ n v. entering op.IfElse _ _ stack rest refl))))
confined op.IntToChr context stack =
    quiet op.IntToChr stack _ (one Any IsSilent stack _ (any stack) (λ a rest q all. of_integer Any IsSilent a _ q (λ n r. byte_silent n rest)))
confined op.IntToStr context stack =
    quiet op.IntToStr stack _ (one Any IsSilent stack _ (any stack) (λ a rest q all. of_integer Any IsSilent a _ q (λ n r. (refl, refl))))
confined op.Missing context stack =
    quiet op.Missing stack _ (one Any IsSilent stack _ (any stack) (λ a rest q all. of_field Any IsSilent a _ (λ field. (refl, refl))))
confined op.Newline context stack = just op.Newline stack _ refl refl
confined op.NumNames context stack = quiet op.NumNames stack _ (string_silent stack _ (λ bytes rest. ranged_silent (pos (length (names_of bytes))) rest))
confined op.Pop context stack = quiet op.Pop stack _ (one Any IsSilent stack _ (any stack) (λ a rest q all. (refl, refl)))
confined op.Preamble context stack = just op.Preamble stack _ refl refl
confined op.Purify context stack = quiet op.Purify stack _ (string_silent stack _ (λ bytes rest. (refl, refl)))
confined op.Quote context stack = just op.Quote stack _ refl refl
confined op.Skip context stack = just op.Skip stack _ refl refl
confined op.Stack context stack = just op.Stack stack _ refl refl
confined op.Substring context stack =
    quiet op.Substring stack _ (three Any IsSilent stack _ (any stack)
    (λ a b c rest p q r all. of_integer Any IsSilent c _ r (λ len t. of_integer Any IsSilent b _ q (λ start u. of_string Any IsSilent a _ p
    (λ bytes v. (refl, refl))))))
confined op.Swap context stack = quiet op.Swap stack _ (two Any IsSilent stack _ (any stack) (λ a b rest p q all. (refl, refl)))
confined op.TextLength context stack = quiet op.TextLength stack _ (string_silent stack _ (λ bytes rest. ranged_silent (pos (text_length_of bytes)) rest))
confined op.TextPrefix context stack =
    quiet op.TextPrefix stack _ (two Any IsSilent stack _ (any stack)
    (λ a b rest p q all. of_integer Any IsSilent b _ q (λ count r. of_string Any IsSilent a _ p (λ bytes s. (refl, refl)))))
confined op.Top context stack = quiet op.Top stack _ (one Any IsSilent stack _ (any stack) (λ a rest q all. (refl, refl)))
confined op.TypeName context stack = quiet op.TypeName stack _ (of_entry IsSilent context.entry _ (λ e. (refl, refl)))
confined op.Warning context stack = quiet op.Warning stack _ (string_silent stack _ (λ bytes rest. (refl, refl)))
confined op.WhileDo context stack =
    two Any (IsConfined op.WhileDo stack) stack _ (any stack)
    (λ a b rest p q all. of_function Any (IsConfined op.WhileDo stack) b _ q (λ body r. of_function Any (IsConfined op.WhileDo stack) a _ p
    (λ test s. entering op.WhileDo _ _ stack rest refl)))
confined op.Width context stack = quiet op.Width stack _ (string_silent stack _ (λ bytes rest. ranged_silent (pos (width_of bytes)) rest))
confined op.Write context stack = quiet op.Write stack _ (string_silent stack _ (λ bytes rest. (refl, refl)))

pub confined_effect : (o : Builtin) (context : Context) (stack : List Value) (effect : Effect) → built_in o context stack ≡ Ok effect
    → IsConfined o stack effect
confined_effect o context stack effect is =
    subst (λ (r : Result Effect Fault). IfOk r (IsConfined o stack)) is (confined o context stack)
