-- From values of a style's run a built-in function gives values of the run: on the stack, in variables, and as what is entered.
use Rattle.std.proofs.Common.{◌≡◌, ℕ, ◌<◌, ◌≤◌, ℤ, pos, negsuc, Bool, true, false, cond, List, [], ◌∷◌, ◌++◌, Option, Some, None, Result, Ok, Err, nat_le, nat_lt, length, take, refl, sym, ap, subst, arith}
use Rattle.std.specs.List.{AllByRecursion}
use Rattle.std.specs.Option.{IfSome, option_map_or, option_and_then}
use Rattle.std.specs.Prelude.{◌+ℤ◌, ◌-ℤ◌, codes, is_none, nat_eq}
use Rattle.std.specs.Result.{IfOk}
use Rattle.std.specs.Cmp.Lexicographic.{pointwise}
use Rattle.std.proofs.lemmas.Bool.{le-leb, leb-true, ltb-true}
use Rattle.std.proofs.lemmas.List.{length-take}
use Rattle.name_table.specs.declared.builtin.Builtin.{Builtin}
use Rattle.name_table.specs.declared.builtin.Builtin.TheVariants as op
use Rattle.name_table.specs.declared.names.Kind.{Kind}
use Rattle.name_table.specs.declared.names.Kind.TheVariants.{Builtin as BuiltinKind, Wizard, Field, IntEntry, StrEntry, IntGlobal, StrGlobal}
use Rattle.name_table.specs.declared.names.NameId.{NameId}
use Rattle.name_table.specs.declared.style.Style.{Style}
use Rattle.name_table.specs.declared.style.TypeTarget.TheVariants.{Function, Default, Skip}
use Rattle.name_table.specs.Names.{id_of}
use Rattle.name_table.specs.Numbers.{IsByteList, has_32_bits}
use Rattle.name_table.specs.Opening.{opening_names, skip}
use Rattle.name_table.specs.Sound.{IsSound}
use Rattle.name_table.specs.TypeTarget.{stands_before_read, target_of, type_function}
use Rattle.name_table.proofs.ByteLists.{bytes_joined, bytes_taken}
use Rattle.name_table.proofs.Within.{id_within}
use Rattle.name_split.specs.Formatted.{Misfit, formatted}
use Rattle.name_split.specs.Names.{names_of}
use Rattle.text_ops.specs.AddPeriod.{with_period}
use Rattle.text_ops.specs.ChangeCase.{case_changed}
use Rattle.text_ops.specs.IntToStr.{numeral}
use Rattle.text_ops.specs.Purify.{purified}
use Rattle.text_ops.specs.Substring.{substring_of}
use Rattle.text_ops.specs.TextLength.{text_length_of}
use Rattle.text_ops.specs.TextPrefix.{text_prefix_of}
use Rattle.text_ops.specs.Width.{width_of}
use Rattle.text_ops.specs.declared.change_case.Case.{Case}
use Rattle.bst_meaning.specs.EntryLists.{Entry}
use Rattle.bst_meaning.specs.declared.fault.Fault.{Fault}
use Rattle.bst_meaning.specs.declared.fault.Fault.TheVariants.{IntRange, NotAscii}
use Rattle.bst_meaning.specs.declared.value.TheConstants.{ENTRY_SIZE, GLOBAL_SIZE}
use Rattle.bst_meaning.specs.declared.value.Target.{Target}
use Rattle.bst_meaning.specs.declared.value.Target.TheVariants.{Named, Block}
use Rattle.bst_meaning.specs.declared.value.Value.{Value}
use Rattle.bst_meaning.specs.declared.value.Value.TheVariants.{Int, Str}
use Rattle.bst_meaning.specs.Builtins.{Context, assign_target, assign_to, assigned_integer, assigned_string, at_entry, built_in, byte_number, byte_string, case_of, change_case_in, cut_warning, equal, integers, is_empty, pushed_name, string, type_entered, type_name}
use Rattle.bst_meaning.specs.Config.{Event, Part, Whole, Testing}
use Rattle.bst_meaning.specs.Effect.{Effect, Entered, left, pushed}
use Rattle.bst_meaning.specs.Entries.{EntryFits}
use Rattle.bst_meaning.specs.Invariant.{IsPartSound}
use Rattle.bst_meaning.specs.Operands.{is_positive, is_zero, ranged, truth}
use Rattle.bst_meaning.specs.StyleParts.{kind_of}
use Rattle.bst_meaning.specs.Values.{IsOfKind, IsTarget, IsValueOf}
use Rattle.bst_meaning.proofs.ByteTexts.{case_changed_bytes, numeral_bytes, purified_bytes, substring_bytes, text_prefix_bytes, with_period_bytes}
use Rattle.bst_meaning.proofs.FormattedBytes.{formatted_bytes}
use Rattle.bst_meaning.proofs.Giving.{of_field, of_function, of_integer, of_string, one, three, two}

-- what is entered can be entered
pub record IsEntered (style : Style) (entered : Entered) : Type 0 where
  pub target : IsTarget style entered.target
  pub part : IsPartSound style entered.part

-- an effect of values of the run
pub record IsFine (style : Style) (effect : Effect) : Type 0 where
  pub stack : AllByRecursion (IsValueOf style) effect.stack
  pub assigned : IfSome effect.assigned (λ new. IsOfKind (kind_of style new.name) new.value)
  pub entered : IfSome effect.entered (IsEntered style)

module _ (style : Style) where
  abbrev V : Value → Type 0
  V value = IsValueOf style value

  abbrev F : Effect → Type 0
  F effect = IsFine style effect

  -- values on the stack
  abbrev Are : List Value → Type 0
  Are stack = AllByRecursion (IsValueOf style) stack

  pushed_fine : (value : Value) (rest : List Value) → V value → Are rest → IfOk (pushed value rest) F
  pushed_fine value rest h all = record { stack = (h, all); assigned = tt; entered = tt }

  text_fine : (bytes : List ℕ) (rest : List Value) → IsByteList bytes → Are rest → IfOk (pushed (Str bytes) rest) F
  text_fine bytes rest h all = record { stack = ((h, tt), all); assigned = tt; entered = tt }

  left_fine : (rest : List Value) (wrote : List Event) (logged : List (List ℕ)) → Are rest → F (record (left rest) { wrote = wrote; logged = logged })
  left_fine rest wrote logged all = record { stack = all; assigned = tt; entered = tt }

  truth_fine : (t : Bool) (rest : List Value) → Are rest → IfOk (pushed (truth t) rest) F
  truth_fine true rest all = record { stack = ((refl, tt), all); assigned = tt; entered = tt }
  truth_fine false rest all = record { stack = ((refl, tt), all); assigned = tt; entered = tt }

  ranged_fine : (n : ℤ) (rest : List Value) → Are rest → IfOk (ranged n rest) F
  ranged_fine n rest all = by (has_32_bits n) (λ e. e)
    where
      by : (t : Bool) → (t ≡ true → has_32_bits n ≡ true) → IfOk (cond t (pushed (Int n) rest) (Err IntRange)) F
      by true h = record { stack = ((h refl, tt), all); assigned = tt; entered = tt }
      by false h = tt

  entered_fine : (target : Target) (part : Part) (rest : List Value) → IsTarget style target → IsPartSound style part → Are rest
      → F (record (left rest) { entered = Some (record { target = target; part = part }) })
  entered_fine target part rest h k all = record { stack = all; assigned = tt; entered = record { target = h; part = k } }

  -- a function on one string, and on two integers
  string_fine : (stack : List Value) (rule : List ℕ → List Value → Result Effect Fault) → Are stack
      → ((bytes : List ℕ) (rest : List Value) → IsByteList bytes → Are rest → IfOk (rule bytes rest) F) → IfOk (string rule stack) F
  string_fine stack rule all h = one V F stack _ all (λ a rest q more. of_string V F a _ q (λ bytes r. h bytes rest r.0 more))

  integers_fine : (stack : List Value) (rule : ℤ → ℤ → List Value → Result Effect Fault) → Are stack
      → ((x y : ℤ) (rest : List Value) → Are rest → IfOk (rule x y rest) F) → IfOk (integers rule stack) F
  integers_fine stack rule all h =
      two V F stack _ all (λ a b rest p q more. of_integer V F b _ q (λ y r. of_integer V F a _ p (λ x s. h x y rest more)))

  -- a function at an entry
  entry_fine : (entry : Option Entry) (rule : Entry → Result Effect Fault) → IfSome entry (EntryFits style)
      → ((e : Entry) → EntryFits style e → IfOk (rule e) F) → IfOk (at_entry entry rule) F
  entry_fine None rule fits h = tt
  entry_fine (Some e) rule fits h = h e fits

  equal_fine : (a b : Value) (rest : List Value) → Are rest → IfOk (equal a b rest) F
  equal_fine (Int a) (Int b) rest all = truth_fine (is_zero (a -ℤ b)) rest all
  equal_fine (Str a) (Str b) rest all = truth_fine (pointwise nat_eq a b) rest all
  equal_fine _ _ rest all = tt

  case_fine : (mode : Option Case) (bytes : List ℕ) (rest : List Value) → IsByteList bytes → Are rest → IfOk (change_case_in mode bytes rest) F
  case_fine None bytes rest h all = tt
  case_fine (Some mode) bytes rest h all = text_fine (case_changed mode bytes) rest (case_changed_bytes mode bytes h) all

  number_fine : (bytes : List ℕ) (rest : List Value) → IsByteList bytes → Are rest → IfOk (byte_number bytes rest) F
  number_fine (b ∷ []) rest h all = pushed_fine (Int (pos b)) rest (le-leb b 2147483647 (omega (arith, h.0)), tt) all
  number_fine _ rest h all = tt

  byte_fine : (n : ℤ) (rest : List Value) → Are rest → IfOk (byte_string n rest) F
  byte_fine (pos n) rest all = by (nat_lt n 128) (λ e. e)
    where
      by : (t : Bool) → (t ≡ true → nat_lt n 128 ≡ true) → IfOk (cond t (pushed (Str (n ∷ [])) rest) (Err NotAscii)) F
      by true h = let small = ltb-true n 128 (h refl) in text_fine (n ∷ []) rest (omega (arith, small), tt) all
      by false h = tt
  byte_fine (negsuc n) rest all = tt

  name_fine : (r : Result (List ℕ) Misfit) (rest : List Value) → ((text : List ℕ) → r ≡ Ok text → IsByteList text) → Are rest
      → IfOk (pushed_name r rest) F
  name_fine (Ok text) rest h all = text_fine text rest (h text refl) all
  name_fine (Err reason) rest h all = tt

  chosen : (t : Bool) (a b : Target) → IsTarget style a → IsTarget style b → IsTarget style (cond t a b)
  chosen true a b h k = h
  chosen false a b h k = k

  type_bytes : (none : Bool) (bytes : List ℕ) → IsByteList bytes → IsByteList (cond none [] bytes)
  type_bytes true bytes h = tt
  type_bytes false bytes h = h

  -- assignments
  string_assigned : (name : NameId) (size : ℕ) (bytes : List ℕ) (rest : List Value)
      → ((text : List ℕ) → IsByteList text → length text ≤ size → IsOfKind (kind_of style name) (Str text))
      → IsByteList bytes → Are rest → IfOk (assigned_string style name size bytes rest) F
  string_assigned name size bytes rest fits h all = by (nat_le (length bytes) size) (λ e. e)
    where
      whole : Result Effect Fault
      whole = Ok (record (left rest) { assigned = Some (record { name = name; value = Str bytes }) })

      cut : Result Effect Fault
      cut = Ok (record (left rest) { assigned = Some (record { name = name; value = Str (take size bytes) }); logged = cut_warning style name size ∷ [] })

      by : (t : Bool) → (t ≡ true → nat_le (length bytes) size ≡ true) → IfOk (cond t whole cut) F
      by true small = record { stack = all; assigned = fits bytes h (leb-true (length bytes) size (small refl)); entered = tt }
      by false small =
          record { stack = all; assigned = fits (take size bytes) (bytes_taken size bytes h) (omega (arith, length-take size bytes)); entered = tt }

  integer_assigned : (name : NameId) (n : ℤ) (rest : List Value) → IsOfKind (kind_of style name) (Int n) → Are rest
      → IfOk (assigned_integer name n rest) F
  integer_assigned name n rest fits all = record { stack = all; assigned = fits; entered = tt }

  module _ (preamble : List ℕ) (entry : Option Entry) (fits : IfSome entry (EntryFits style)) where
    abbrev context : Context
    context = record { style = style; preamble = preamble; entry = entry }

    -- a value of a kind, where the name has the kind
    of_kind : (name : NameId) (kind : Option Kind) (value : Value) → kind_of style name ≡ kind → IsOfKind kind value
        → IsOfKind (kind_of style name) value
    of_kind name kind value is h = subst (λ (k : Option Kind). IsOfKind k value) (sym is) h

    assign_fine : (kind : Option Kind) (name : NameId) (value : Value) (rest : List Value) → kind_of style name ≡ kind → V value → Are rest
        → IfOk (assign_to context kind name value rest) F
    assign_fine (Some IntGlobal) name value rest is h all =
        of_integer V F value _ h (λ n q. integer_assigned name n rest (of_kind name (Some IntGlobal) (Int n) is q.0) all)
    assign_fine (Some StrGlobal) name value rest is h all =
        of_string V F value _ h (λ bytes q. string_assigned name GLOBAL_SIZE bytes rest (λ text fine small. of_kind name (Some StrGlobal) (Str text) is (fine, small)) q.0 all)
    assign_fine (Some IntEntry) name value rest is h all =
        entry_fine entry _ fits (λ e fine. of_integer V F value _ h (λ n q. integer_assigned name n rest (of_kind name (Some IntEntry) (Int n) is q.0) all))
    assign_fine (Some StrEntry) name value rest is h all =
        entry_fine entry _ fits
        (λ e fine. of_string V F value _ h (λ bytes q. string_assigned name ENTRY_SIZE bytes rest (λ text fine small. of_kind name (Some StrEntry) (Str text) is (fine, small)) q.0 all))
    assign_fine (Some Field) name value rest is h all = tt
    assign_fine (Some (BuiltinKind o)) name value rest is h all = tt
    assign_fine (Some (Wizard body)) name value rest is h all = tt
    assign_fine None name value rest is h all = tt

    target_fine : (target : Target) (value : Value) (rest : List Value) → V value → Are rest → IfOk (assign_target context target value rest) F
    target_fine (Named name) value rest h all = assign_fine (kind_of style name) name value rest refl h all
    target_fine (Block body) value rest h all = tt

    module _ (sound : IsSound style) (bytes_of_preamble : IsByteList preamble) where
      -- what `call.type$` enters is there
      function_within : (name : List ℕ) (id : NameId) → type_function name style ≡ Some id → id.0 < length style.names
      function_within name id is =
          elim (id_of name style.names) as (λ (found : Option NameId). id_of name style.names ≡ found
          → option_and_then (λ i. cond (stands_before_read i style.commands) (Some i) None) found ≡ Some id → id.0 < length style.names) [
            | None ↦ λ e f. absurd (cc)
            | Some i ↦ λ e f. by i (stands_before_read i style.commands) e f
          ] refl is
        where
          by : (i : NameId) (t : Bool) → id_of name style.names ≡ Some i → cond t (Some i) None ≡ Some id → id.0 < length style.names
          by i true e f =
              let same : i.0 ≡ id.0 = ap (λ (o : Option NameId). option_map_or (λ (j : NameId). j.0) o 0) f in
              let within = id_within name style.names i e in omega (arith, same, within)
          by i false e f = absurd (cc)

      skip_within : skip.0 < length style.names
      skip_within =
          let long : length style.names ≡ length (opening_names ++ sound.declared) = ap (λ (l : List (List ℕ × Kind)). length l) sound.names in
          omega (arith, long)

      type_within : (t : List ℕ) → IsTarget style (Named (type_entered (target_of t style)))
      type_within t =
          elim (type_function t style) as (λ (found : Option NameId). type_function t style ≡ found
          → (type_entered (option_map_or Function found (option_map_or Default (type_function (codes "default.type") style) Skip))).0 < length style.names) [
            | Some id ↦ λ e. function_within t id e
            | None ↦ λ e.
                elim (type_function (codes "default.type") style) as (λ (found : Option NameId). type_function (codes "default.type") style ≡ found
                → (type_entered (option_map_or Default found Skip)).0 < length style.names) [
                  | Some id ↦ λ f. function_within (codes "default.type") id f
                  | None ↦ λ f. skip_within
                ] refl
          ] refl

      pub fine : (o : Builtin) (stack : List Value) → Are stack → IfOk (built_in o context stack) F
      fine op.Equal stack all = two V F stack _ all (λ a b rest p q more. equal_fine a b rest more)
      fine op.Greater stack all = integers_fine stack _ all (λ x y rest more. truth_fine (is_positive (x -ℤ y)) rest more)
      fine op.Less stack all = integers_fine stack _ all (λ x y rest more. truth_fine (is_positive (y -ℤ x)) rest more)
      fine op.Plus stack all = integers_fine stack _ all (λ x y rest more. ranged_fine (x +ℤ y) rest more)
      fine op.Minus stack all = integers_fine stack _ all (λ x y rest more. ranged_fine (x -ℤ y) rest more)
      fine op.Join stack all =
          two V F stack _ all
          (λ a b rest p q more. of_string V F b _ q (λ y r. of_string V F a _ p (λ x s. text_fine (x ++ y) rest (bytes_joined x y s.0 r.0) more)))
      fine op.Assign stack all =
          two V F stack _ all (λ value target rest p q more. of_function V F target _ q (λ t r. target_fine t value rest p more))
      fine op.AddPeriod stack all = string_fine stack _ all (λ bytes rest h more. text_fine (with_period bytes) rest (with_period_bytes bytes h) more)
      fine op.CallType stack all =
          entry_fine entry _ fits (λ e h. entered_fine (Named (type_entered (target_of e.entry_type style))) Whole stack (type_within e.entry_type) tt all)
      fine op.ChangeCase stack all =
          two V F stack _ all
          (λ a b rest p q more. of_string V F b _ q (λ mode r. of_string V F a _ p (λ bytes s. case_fine (case_of mode) bytes rest s.0 more)))
      fine op.ChrToInt stack all = string_fine stack _ all (λ bytes rest h more. number_fine bytes rest h more)
      fine op.Cite stack all = entry_fine entry _ fits (λ e h. text_fine e.key stack h.key_bytes all)
      fine op.Duplicate stack all = one V F stack _ all (λ a rest q more. pushed_fine a (a ∷ rest) q (q, more))
      fine op.Empty stack all = one V F stack _ all (λ a rest q more. of_field V F a _ (λ field. truth_fine (is_empty field) rest more))
      fine op.FormatName stack all =
          three V F stack _ all
          (λ a b c rest p q r more. of_string V F c _ r (λ pattern t. of_integer V F b _ q (λ index u. of_string V F a _ p
          (λ text v. name_fine (formatted text index pattern) rest (λ name is. formatted_bytes text index pattern name v.0 t.0 is) more))))
      fine op.IfElse stack all =
          three V F stack _ all
          (λ a b c rest p q r more. of_function V F c _ r (λ other t. of_function V F b _ q (λ first u. of_integer V F a _ p
          (λ n v. entered_fine (cond (is_positive n) first other) Whole rest (chosen (is_positive n) first other u.1 t.1) tt more))))
      fine op.IntToChr stack all = one V F stack _ all (λ a rest q more. of_integer V F a _ q (λ n r. byte_fine n rest more))
      fine op.IntToStr stack all =
          one V F stack _ all (λ a rest q more. of_integer V F a _ q (λ n r. text_fine (numeral n) rest (numeral_bytes n) more))
      fine op.Missing stack all = one V F stack _ all (λ a rest q more. of_field V F a _ (λ field. truth_fine (is_none field) rest more))
      fine op.Newline stack all = left_fine stack _ _ all
      fine op.NumNames stack all = string_fine stack _ all (λ bytes rest h more. ranged_fine (pos (length (names_of bytes))) rest more)
      fine op.Pop stack all = one V F stack _ all (λ a rest q more. left_fine rest _ _ more)
      fine op.Preamble stack all = text_fine preamble stack bytes_of_preamble all
      fine op.Purify stack all = string_fine stack _ all (λ bytes rest h more. text_fine (purified bytes) rest (purified_bytes bytes h) more)
      fine op.Quote stack all = text_fine (codes "\"") stack (omega arith, tt) all
      fine op.Skip stack all = left_fine stack _ _ all
      fine op.Stack stack all = left_fine [] _ _ tt
      fine op.Substring stack all =
          three V F stack _ all
          (λ a b c rest p q r more. of_integer V F c _ r (λ len t. of_integer V F b _ q (λ start u. of_string V F a _ p
          (λ bytes v. text_fine (substring_of bytes start len) rest (substring_bytes bytes start len v.0) more))))
      fine op.Swap stack all = two V F stack _ all (λ a b rest p q more. left_fine (a ∷ b ∷ rest) _ _ (p, (q, more)))
      fine op.TextLength stack all = string_fine stack _ all (λ bytes rest h more. ranged_fine (pos (text_length_of bytes)) rest more)
      fine op.TextPrefix stack all =
          two V F stack _ all
          (λ a b rest p q more. of_integer V F b _ q (λ count r. of_string V F a _ p
          (λ bytes s. text_fine (text_prefix_of bytes count) rest (text_prefix_bytes bytes count s.0) more)))
      fine op.Top stack all = one V F stack _ all (λ a rest q more. left_fine rest _ _ more)
      fine op.TypeName stack all =
          entry_fine entry _ fits
          (λ e h. text_fine (type_name style e.entry_type) stack (type_bytes (is_none (type_function e.entry_type style)) e.entry_type h.type_bytes) all)
      fine op.Warning stack all = string_fine stack _ all (λ bytes rest h more. left_fine rest _ _ more)
      fine op.WhileDo stack all =
          two V F stack _ all
          (λ a b rest p q more. of_function V F b _ q (λ body r. of_function V F a _ p
          (λ test s. entered_fine test (Testing test body) rest s.1 (s.1, r.1) more)))
      fine op.Width stack all = string_fine stack _ all (λ bytes rest h more. ranged_fine (pos (width_of bytes)) rest more)
      fine op.Write stack all = string_fine stack _ all (λ bytes rest h more. left_fine rest _ _ more)
