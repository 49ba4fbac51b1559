-- What the facts decide holds of the value of their symbol.
use Rattle.std.proofs.Common.{◌≡◌, ℕ, Bool, true, false, cond, ap, ◌∙◌, subst, refl, List, [], ◌∷◌, arith, nat_eq, Option, None, Some, not}
use Rattle.std.specs.List.{AllByRecursion}
use Rattle.std.specs.Option.{option_or, option_map_or}
use Rattle.std.proofs.lemmas.Bool.Decides.{nat_tests}
use Rattle.std.specs.Prelude.{ℤ}
use Rattle.name_table.specs.declared.style.Style.{Style}
use Rattle.bst_meaning.specs.declared.value.Value.{Value}
use Rattle.bst_meaning.specs.declared.value.Value.TheVariants.{Int as IntValue, Str as StrValue, Missing as MissingValue}
use Rattle.sym_state.specs.declared.symbol.Fact.{Fact}
use Rattle.sym_state.specs.declared.symbol.Fact.TheVariants.{Is, Int, Text, Blank, Nonblank}
use Rattle.sym_state.specs.declared.symbol.Kinds.TheVariants.{Int as IntKind, Str, Missing, Optional, Func, Any}
use Rattle.sym_state.specs.Symbols.{Valuation}
use Rattle.sym_state.specs.Facts.{subject, Says, FactHolds, emptiness}
use Rattle.sym_state.specs.Decided.{first_said, integer_said, text_said, emptiness_said, exact_integer, exact_text, is_known_nonblank}

pub same_number : (a b : ℕ) → nat_eq a b ≡ true → a ≡ b
same_number a b e = grind (arith, nat_tests)

-- what the first fact on a symbol says is said by a fact that holds of the symbol's value
pub record Source {X : Type 0} (said : Fact → Option X) (style : Style) (value : Value) (x : X) : Type 0 where
  pub fact : Fact
  pub says : said fact ≡ Some x
  pub holds : Says style fact value

pub from_facts : {X : Type 0} (said : Fact → Option X) (style : Style) (v : Valuation) (s : ℕ) (facts : List Fact) (x : X)
    → AllByRecursion (FactHolds style v) facts → first_said said s facts ≡ Some x → Source said style (v.value s) x
from_facts said style v s [] x all e = absurd (cc)
from_facts {X} said style v s (fact ∷ facts) x all e =
    let later = from_facts said style v s facts x all.1 in
    elim (nat_eq (subject fact) s) as (λ t. nat_eq (subject fact) s ≡ t → cond t (option_or (said fact) (first_said said s facts)) (first_said said s facts) ≡ Some x → Source said style (v.value s) x) [
      | true ↦ λ here. elim (said fact) as (λ (o : Option X). said fact ≡ o → option_or o (first_said said s facts) ≡ Some x → Source said style (v.value s) x) [
        | Some y ↦ λ is found. record { fact = fact; says = is ∙ found; holds = subst (λ (n : ℕ). Says style fact (v.value n)) (same_number (subject fact) s here) all.0 }
        | None ↦ λ is found. later found
      ] refl
      | false ↦ λ here found. later found
    ] refl e

pub integer_fact : (style : Style) (value : Value) (fact : Fact) (n : ℤ) → integer_said fact ≡ Some n → Says style fact value → value ≡ IntValue n
integer_fact style value (Int s m) n e h = let same : m ≡ n = cc in h ∙ ap (λ (k : ℤ). IntValue k) same
integer_fact style value _ n e h = absurd (cc)

pub text_fact : (style : Style) (value : Value) (fact : Fact) (text : List ℕ) → text_said fact ≡ Some text → Says style fact value → value ≡ StrValue text
text_fact style value (Text s m) text e h = let same : m ≡ text = cc in h ∙ ap (λ (k : List ℕ). StrValue k) same
text_fact style value _ text e h = absurd (cc)

missing_empty : (style : Style) (value : Value) → Says style (Is (record { 0 = 0 }) Missing) value → emptiness value ≡ Some true
missing_empty style (MissingValue name) h = refl
missing_empty style _ h = absurd (cc)

-- what a fact says that `empty$` gives is what it gives
pub emptiness_fact : (style : Style) (value : Value) (fact : Fact) (b : Bool) → emptiness_said fact ≡ Some b → Says style fact value → emptiness value ≡ Some b
emptiness_fact style value (Is s Missing) b e h = missing_empty style value h ∙ e
emptiness_fact style value (Is s IntKind) b e h = absurd (cc)
emptiness_fact style value (Is s Str) b e h = absurd (cc)
emptiness_fact style value (Is s Optional) b e h = absurd (cc)
emptiness_fact style value (Is s Func) b e h = absurd (cc)
emptiness_fact style value (Is s Any) b e h = absurd (cc)
emptiness_fact style value (Text s text) b e h = ap emptiness h ∙ e
emptiness_fact style value (Blank s) b e h = h ∙ e
emptiness_fact style value (Nonblank s) b e h = h ∙ e
emptiness_fact style value _ b e h = absurd (cc)

pub exact_integer_is : (style : Style) (v : Valuation) (s : ℕ) (facts : List Fact) (n : ℤ)
    → AllByRecursion (FactHolds style v) facts → exact_integer facts s ≡ Some n → v.value s ≡ IntValue n
exact_integer_is style v s facts n all e =
    let source = from_facts integer_said style v s facts n all e in
    integer_fact style (v.value s) source.fact n source.says source.holds

pub exact_text_is : (style : Style) (v : Valuation) (s : ℕ) (facts : List Fact) (text : List ℕ)
    → AllByRecursion (FactHolds style v) facts → exact_text facts s ≡ Some text → v.value s ≡ StrValue text
exact_text_is style v s facts text all e =
    let source = from_facts text_said style v s facts text all e in
    text_fact style (v.value s) source.fact text source.says source.holds

decided_not : (o : Option Bool) → option_map_or not o false ≡ true → o ≡ Some false
decided_not (Some true) e = absurd (cc)
decided_not (Some false) e = refl
decided_not None e = absurd (cc)

pub nonblank_is : (style : Style) (v : Valuation) (s : ℕ) (facts : List Fact)
    → AllByRecursion (FactHolds style v) facts → is_known_nonblank facts s ≡ true → emptiness (v.value s) ≡ Some false
nonblank_is style v s facts all e =
    let source = from_facts emptiness_said style v s facts false all (decided_not (first_said emptiness_said s facts) e) in
    emptiness_fact style (v.value s) source.fact false source.says source.holds
