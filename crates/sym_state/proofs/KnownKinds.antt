-- The kind that is known of a symbol is that of its value, and so are an exact function and the results of demands.
use Rattle.std.proofs.Common.{◌≡◌, ℕ, Bool, true, false, cond, refl, ap, subst, ◌∙◌, List, nat_eq, Option, None, Some, ◌&&◌}
use Rattle.std.specs.Prelude.{ℤ}
use Rattle.std.specs.List.{AllByRecursion, list_any}
use Rattle.std.specs.Option.{unwrap_or}
use Rattle.name_table.specs.declared.names.NameId.{NameId}
use Rattle.name_table.specs.declared.style.Style.{Style}
use Rattle.bst_meaning.specs.declared.value.Target.{Target}
use Rattle.bst_meaning.specs.declared.value.Target.TheVariants.{Named}
use Rattle.bst_meaning.specs.declared.value.Value.{Value}
use Rattle.bst_meaning.specs.declared.value.Value.TheVariants.{Int as IntValue, Str as StrValue, Func as FuncValue}
use Rattle.sym_state.specs.declared.symbol.Fact.{Fact}
use Rattle.sym_state.specs.declared.symbol.Fact.TheVariants.{Is, Call}
use Rattle.sym_state.specs.declared.symbol.Kinds.{Kinds}
use Rattle.sym_state.specs.declared.symbol.Kinds.TheVariants.{Int as IntKind, Str, Missing, Optional, Func, Any}
use Rattle.sym_state.specs.Symbols.{Valuation}
use Rattle.sym_state.specs.Facts.{subject, Says, FactHolds, has_kind}
use Rattle.sym_state.specs.Decided.{ByName, exact_function, first_said, function_said, includes, kind_said, known_kind, single}
use Rattle.sym_state.proofs.Consequences.{kind_holds, some_gives, widened}
use Rattle.sym_state.proofs.Deciding.{from_facts}

single_is : (k x : Kinds) → single k ≡ Some x → k ≡ x
single_is IntKind x e = cc
single_is Str x e = cc
single_is Missing x e = cc
single_is Func x e = cc
single_is _ x e = absurd (cc)

-- the kind that is known
pub known_kind_holds : (style : Style) (v : Valuation) (s : ℕ) (facts : List Fact) → AllByRecursion (FactHolds style v) facts
    → has_kind (known_kind facts s) (v.value s) ≡ true
known_kind_holds style v s facts all =
    let wide = list_any (λ fact. nat_eq (subject fact) s && includes Optional (kind_said fact)) facts in
    elim (first_said (λ fact. single (kind_said fact)) s facts) as (λ (o : Option Kinds). first_said (λ fact. single (kind_said fact)) s facts ≡ o
    → has_kind (unwrap_or o (cond wide Optional Any)) (v.value s) ≡ true) [
      | Some k ↦ λ e.
          let source = from_facts (λ fact. single (kind_said fact)) style v s facts k all e in
          subst (λ (kind : Kinds). has_kind kind (v.value s) ≡ true) (single_is (kind_said source.fact) k source.says)
          (kind_holds style (v.value s) source.fact source.holds)
      | None ↦ λ e. elim wide as (λ (t : Bool). wide ≡ t → has_kind (cond t Optional Any) (v.value s) ≡ true) [
        | true ↦ λ found. some_gives style v s facts (Is (record { 0 = 0 }) Optional) all found
        | false ↦ λ found. refl
      ] refl
    ] refl

-- an operand is of the kind that is demanded
pub of_kind_holds : (style : Style) (v : Valuation) (s : ℕ) (facts : List Fact) (kind : Kinds) → AllByRecursion (FactHolds style v) facts
    → includes kind (known_kind facts s) ≡ true → has_kind kind (v.value s) ≡ true
of_kind_holds style v s facts kind all e =
    widened kind (known_kind facts s) (v.value s) e (known_kind_holds style v s facts all)

pub string_is : (value : Value) → has_kind Str value ≡ true → (bytes : List ℕ) × (value ≡ StrValue bytes)
string_is (StrValue bytes) e = (bytes, refl)
string_is _ e = absurd (cc)

pub integer_is : (value : Value) → has_kind IntKind value ≡ true → (n : ℤ) × (value ≡ IntValue n)
integer_is (IntValue n) e = (n, refl)
integer_is _ e = absurd (cc)

pub function_is : (value : Value) → has_kind Func value ≡ true → (target : Target) × (value ≡ FuncValue target)
function_is (FuncValue target) e = (target, refl)
function_is _ e = absurd (cc)

function_fact : (style : Style) (value : Value) (fact : Fact) (name : NameId) → function_said fact ≡ Some (ByName name) → Says style fact value
    → value ≡ FuncValue (Named name)
function_fact style value (Call s other) name e h = let same : other ≡ name = cc in h ∙ ap (λ (n : NameId). FuncValue (Named n)) same
function_fact style value _ name e h = absurd (cc)

-- a function that is known by its name
pub name_is : (style : Style) (v : Valuation) (s : ℕ) (facts : List Fact) (name : NameId) → AllByRecursion (FactHolds style v) facts
    → exact_function facts s ≡ Some (ByName name) → v.value s ≡ FuncValue (Named name)
name_is style v s facts name all e =
    let source = from_facts function_said style v s facts (ByName name) all e in
    function_fact style (v.value s) source.fact name source.says source.holds
