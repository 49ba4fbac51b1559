-- What holds of the effect of every function that takes operands, from what holds of the values on the stack.
use Rattle.std.proofs.Common.{ℤ, ℕ, Bool, true, false, cond, List, [], ◌∷◌, Option, Some, None, Result}
use Rattle.std.specs.List.{AllByRecursion}
use Rattle.std.specs.Result.{IfOk}
use Rattle.bst_meaning.specs.EntryLists.{Entry}
use Rattle.bst_meaning.specs.declared.fault.Fault.{Fault}
use Rattle.bst_meaning.specs.declared.value.Target.{Target}
use Rattle.bst_meaning.specs.declared.value.Value.{Value}
use Rattle.bst_meaning.specs.declared.value.Value.TheVariants.{Int, Str, Missing, Func}
use Rattle.bst_meaning.specs.Builtins.{at_entry}
use Rattle.bst_meaning.specs.Effect.{Effect}
use Rattle.bst_meaning.specs.Operands.{as_field, as_function, as_integer, as_string, one_operand, three_operands, two_operands}

module _ (Q : Value → Type 0) (P : Effect → Type 0) where
  pub one : (stack : List Value) (rule : Value → List Value → Result Effect Fault) → AllByRecursion Q stack
      → ((a : Value) (rest : List Value) → Q a → AllByRecursion Q rest → IfOk (rule a rest) P) → IfOk (one_operand stack rule) P
  one [] rule all h = tt
  one (a ∷ rest) rule all h = h a rest all.0 all.1

  pub two : (stack : List Value) (rule : Value → Value → List Value → Result Effect Fault) → AllByRecursion Q stack
      → ((a b : Value) (rest : List Value) → Q a → Q b → AllByRecursion Q rest → IfOk (rule a b rest) P) → IfOk (two_operands stack rule) P
  two [] rule all h = tt
  two (b ∷ []) rule all h = tt
  two (b ∷ a ∷ rest) rule all h = h a b rest all.1.0 all.0 all.1.1

  pub three : (stack : List Value) (rule : Value → Value → Value → List Value → Result Effect Fault) → AllByRecursion Q stack
      → ((a b c : Value) (rest : List Value) → Q a → Q b → Q c → AllByRecursion Q rest → IfOk (rule a b c rest) P)
      → IfOk (three_operands stack rule) P
  three [] rule all h = tt
  three (c ∷ []) rule all h = tt
  three (c ∷ b ∷ []) rule all h = tt
  three (c ∷ b ∷ a ∷ rest) rule all h = h a b c rest all.1.1.0 all.1.0 all.0 all.1.1.1

  pub of_string : (value : Value) (rule : List ℕ → Result Effect Fault) → Q value → ((bytes : List ℕ) → Q (Str bytes) → IfOk (rule bytes) P)
      → IfOk (as_string value rule) P
  of_string (Str bytes) rule q h = h bytes q
  of_string _ rule q h = tt

  pub of_integer : (value : Value) (rule : ℤ → Result Effect Fault) → Q value → ((n : ℤ) → Q (Int n) → IfOk (rule n) P)
      → IfOk (as_integer value rule) P
  of_integer (Int n) rule q h = h n q
  of_integer _ rule q h = tt

  pub of_function : (value : Value) (rule : Target → Result Effect Fault) → Q value → ((target : Target) → Q (Func target) → IfOk (rule target) P)
      → IfOk (as_function value rule) P
  of_function (Func target) rule q h = h target q
  of_function _ rule q h = tt

  pub of_field : (value : Value) (rule : Option (List ℕ) → Result Effect Fault) → ((field : Option (List ℕ)) → IfOk (rule field) P)
      → IfOk (as_field value rule) P
  of_field (Str bytes) rule h = h (Some bytes)
  of_field (Missing name) rule h = h None
  of_field (Int n) rule h = tt
  of_field (Func target) rule h = tt

module _ (P : Effect → Type 0) where
  pub of_entry : (entry : Option Entry) (rule : Entry → Result Effect Fault) → ((e : Entry) → IfOk (rule e) P) → IfOk (at_entry entry rule) P
  of_entry None rule h = tt
  of_entry (Some e) rule h = h e

  pub either : (t : Bool) (a b : Result Effect Fault) → IfOk a P → IfOk b P → IfOk (cond t a b) P
  either true a b h k = h
  either false a b h k = k
