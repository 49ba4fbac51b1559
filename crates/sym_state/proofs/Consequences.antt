-- Where one fact gives another, the other holds of each value of which the one holds.
use Rattle.std.proofs.Common.{◌≡◌, ℕ, Bool, true, false, ap, sym, ◌∙◌, subst, refl, List, [], ◌∷◌, nat_eq, Option, None, Some, not, ◌&&◌, ◌||◌}
use Rattle.std.specs.Prelude.{ℤ}
use Rattle.std.specs.List.{AllByRecursion, list_any, list_all}
use Rattle.bv_base.specs.Bytes.{is_white}
use Rattle.std.specs.Option.{option_map_or}
use Rattle.std.specs.Ordering.{int_eq}
use Rattle.std.specs.Cmp.Lexicographic.{pointwise}
use Rattle.std.proofs.lemmas.Bool.{and_parts, not-true}
use Rattle.std.proofs.lemmas.Bool.Decides.{Decides-int_eq}
use Rattle.name_table.specs.declared.names.NameId.{NameId}
use Rattle.name_table.specs.declared.style.Style.{Style}
use Rattle.bst_meaning.specs.declared.value.Target.TheVariants.{Named}
use Rattle.bst_meaning.specs.declared.value.Value.{Value}
use Rattle.bst_meaning.specs.declared.value.Value.TheVariants.{Int as IntValue, Str as StrValue, Missing as MissingValue, Func as FuncValue}
use Rattle.sym_state.specs.declared.symbol.Kinds.{Kinds}
use Rattle.sym_state.specs.declared.symbol.Kinds.TheVariants.{Int as IntKind, Str, Missing, Optional, Func, Any}
use Rattle.sym_state.specs.declared.symbol.Fact.{Fact}
use Rattle.sym_state.specs.declared.symbol.Fact.TheVariants.{Is, Int, Text, Call, Block, Blank, Nonblank, Wellformed}
use Rattle.sym_state.specs.Symbols.{Valuation}
use Rattle.sym_state.specs.Facts.{subject, Says, FactHolds, emptiness, has_kind, has_good_names, IsBlock}
use Rattle.sym_state.specs.Decided.{kind_said, integer_said, text_said, name_said, block_said, emptiness_said, wellformed_said, is_nameless, includes, gives, says_nothing, is_known}
use Rattle.sym_state.proofs.BlankNames.{blank_names}
use Rattle.sym_state.proofs.Deciding.{integer_fact, text_fact, emptiness_fact, same_number}

optional_of : (value : Value) (b : Bool) → emptiness value ≡ Some b → has_kind Optional value ≡ true
optional_of (StrValue bytes) b e = refl
optional_of (MissingValue name) b e = refl
optional_of _ b e = absurd (cc)

pub string_of : (value : Value) → emptiness value ≡ Some false → has_kind Str value ≡ true
string_of (StrValue bytes) e = refl
string_of _ e = absurd (cc)

function_of : (style : Style) (number : ℕ) (value : Value) → IsBlock style number value → has_kind Func value ≡ true
function_of style number (FuncValue target) h = refl
function_of style number (IntValue n) h = absurd h
function_of style number (StrValue n) h = absurd h
function_of style number (MissingValue n) h = absurd h

-- a value is of the kind that a fact on it says
pub kind_holds : (style : Style) (value : Value) (fact : Fact) → Says style fact value → has_kind (kind_said fact) value ≡ true
kind_holds style value (Is s kind) h = h
kind_holds style value (Int s n) h = ap (has_kind IntKind) h
kind_holds style value (Text s text) h = ap (has_kind Str) h
kind_holds style value (Call s name) h = ap (has_kind Func) h
kind_holds style value (Block s number) h = function_of style number value h
kind_holds style value (Blank s) h = optional_of value true h
kind_holds style value (Nonblank s) h = string_of value h
kind_holds style value (Wellformed s) h = refl

-- a value of a kind is of each kind that includes it
pub widened : (wide kind : Kinds) (value : Value) → includes wide kind ≡ true → has_kind kind value ≡ true → has_kind wide value ≡ true
widened Any kind value e h = refl
widened IntKind IntKind value e h = h
widened Str Str value e h = h
widened Missing Missing value e h = h
widened Optional Optional value e h = h
widened Func Func value e h = h
widened Optional Str (StrValue bytes) e h = refl
widened Optional Missing (MissingValue name) e h = refl
widened Optional Str (IntValue n) e h = absurd (cc)
widened Optional Str (MissingValue n) e h = absurd (cc)
widened Optional Str (FuncValue n) e h = absurd (cc)
widened Optional Missing (IntValue n) e h = absurd (cc)
widened Optional Missing (StrValue n) e h = absurd (cc)
widened Optional Missing (FuncValue n) e h = absurd (cc)
widened _ _ value e h = absurd (cc)

good_string : (value : Value) → emptiness value ≡ Some true → has_good_names value ≡ true
good_string (StrValue bytes) e = let blank : list_all is_white bytes ≡ true = cc in blank_names bytes blank
good_string (MissingValue name) e = refl
good_string (IntValue n) e = refl
good_string (FuncValue target) e = refl

nameless : (kind : Kinds) (value : Value) → is_nameless kind ≡ true → has_kind kind value ≡ true → has_good_names value ≡ true
nameless IntKind (IntValue n) e h = refl
nameless Missing (MissingValue n) e h = refl
nameless Func (FuncValue n) e h = refl
nameless kind (IntValue n) e h = refl
nameless kind (MissingValue n) e h = refl
nameless kind (FuncValue n) e h = refl
nameless IntKind (StrValue bytes) e h = absurd (cc)
nameless Missing (StrValue bytes) e h = absurd (cc)
nameless Func (StrValue bytes) e h = absurd (cc)
nameless Str (StrValue bytes) e h = absurd (cc)
nameless Optional (StrValue bytes) e h = absurd (cc)
nameless Any (StrValue bytes) e h = absurd (cc)

wellformed_holds : (style : Style) (value : Value) (fact : Fact) → wellformed_said fact ≡ true → Says style fact value → has_good_names value ≡ true
wellformed_holds style value (Text s text) e h = ap has_good_names h ∙ e
wellformed_holds style value (Blank s) e h = good_string value h
wellformed_holds style value (Wellformed s) e h = h
wellformed_holds style value (Is s kind) e h = nameless kind value e h
wellformed_holds style value (Int s n) e h = ap has_good_names h
wellformed_holds style value (Call s name) e h = ap has_good_names h
wellformed_holds style value (Block s number) e h = nameless Func value refl (function_of style number value h)
wellformed_holds style value (Nonblank s) e h = absurd (cc)

-- an option that passes a test has a value that passes it
pub record Passes {X : Type 0} (test : X → Bool) (o : Option X) : Type 0 where
  pub value : X
  pub is : o ≡ Some value
  pub passes : test value ≡ true

passing : {X : Type 0} (test : X → Bool) (o : Option X) → option_map_or test o false ≡ true → Passes test o
passing test (Some x) e = record { value = x; is = refl; passes = e }
passing test None e = absurd (cc)

name_fact : (style : Style) (value : Value) (fact : Fact) (name : NameId) → name_said fact ≡ Some name → Says style fact value → value ≡ FuncValue (Named name)
name_fact style value (Call s other) name e h = let same : other ≡ name = cc in h ∙ ap (λ (n : NameId). FuncValue (Named n)) same
name_fact style value _ name e h = absurd (cc)

block_fact : (style : Style) (value : Value) (fact : Fact) (number : ℕ) → block_said fact ≡ Some number → Says style fact value → IsBlock style number value
block_fact style value (Block s other) number e h = let same : other ≡ number = cc in subst (λ (n : ℕ). IsBlock style n value) same h
block_fact style value _ number e h = absurd (cc)

pub same_bytes : (a b : List ℕ) → pointwise nat_eq a b ≡ true → a ≡ b
same_bytes [] [] e = refl
same_bytes [] (y ∷ ys) e = absurd (cc)
same_bytes (x ∷ xs) [] e = absurd (cc)
same_bytes (x ∷ xs) (y ∷ ys) e =
    let both = and_parts (nat_eq x y) (pointwise nat_eq xs ys) e in
    ap (λ (n : ℕ). n ∷ xs) (same_number x y both.0) ∙ ap (λ (rest : List ℕ). y ∷ rest) (same_bytes xs ys both.1)

same_name : (a b : NameId) → a.0 ≡ b.0 → a ≡ b
same_name a b e = ap (λ (n : ℕ). let id : NameId = record { 0 = n } in id) e

pub consequence : (style : Style) (value : Value) (fact wanted : Fact) → gives fact wanted ≡ true → Says style fact value → Says style wanted value
consequence style value fact (Is s kind) e h = widened kind (kind_said fact) value e (kind_holds style value fact h)
consequence style value fact (Int s n) e h =
    let p = passing (int_eq n) (integer_said fact) e in
    integer_fact style value fact p.value p.is h ∙ ap (λ (k : ℤ). IntValue k) (sym ((Decides-int_eq n p.value).0 p.passes))
consequence style value fact (Text s text) e h =
    let p = passing (pointwise nat_eq text) (text_said fact) e in
    text_fact style value fact p.value p.is h ∙ ap (λ (k : List ℕ). StrValue k) (sym (same_bytes text p.value p.passes))
consequence style value fact (Call s name) e h =
    let p = passing (λ (other : NameId). nat_eq name.0 other.0) (name_said fact) e in
    name_fact style value fact p.value p.is h ∙ ap (λ (k : NameId). FuncValue (Named k)) (sym (same_name name p.value (same_number name.0 p.value.0 p.passes)))
consequence style value fact (Block s number) e h =
    let p = passing (nat_eq number) (block_said fact) e in
    subst (λ (n : ℕ). IsBlock style n value) (sym (same_number number p.value p.passes)) (block_fact style value fact p.value p.is h)
consequence style value fact (Blank s) e h =
    let p = passing (λ (b : Bool). b) (emptiness_said fact) e in
    emptiness_fact style value fact p.value p.is h ∙ ap (λ (b : Bool). Some b) p.passes
consequence style value fact (Nonblank s) e h =
    let p = passing not (emptiness_said fact) e in
    emptiness_fact style value fact p.value p.is h ∙ ap (λ (b : Bool). Some b) (not-true p.value p.passes)
consequence style value fact (Wellformed s) e h = wellformed_holds style value fact e h

nothing_said : (style : Style) (value : Value) (wanted : Fact) → says_nothing wanted ≡ true → Says style wanted value
nothing_said style value (Is s Any) e = refl
nothing_said style value _ e = absurd (cc)

pub some_gives : (style : Style) (v : Valuation) (s : ℕ) (facts : List Fact) (wanted : Fact) → AllByRecursion (FactHolds style v) facts
    → list_any (λ fact. nat_eq (subject fact) s && gives fact wanted) facts ≡ true → Says style wanted (v.value s)
some_gives style v s [] wanted all e = absurd (cc)
some_gives style v s (fact ∷ facts) wanted all e =
    elim (nat_eq (subject fact) s && gives fact wanted) as (λ (t : Bool). (nat_eq (subject fact) s && gives fact wanted) ≡ t → (t || list_any (λ other. nat_eq (subject other) s && gives other wanted) facts) ≡ true → Says style wanted (v.value s)) [
      | true ↦ λ here found.
          let both = and_parts (nat_eq (subject fact) s) (gives fact wanted) here in
          consequence style (v.value s) fact wanted both.1 (subst (λ (n : ℕ). Says style fact (v.value n)) (same_number (subject fact) s both.0) all.0)
      | false ↦ λ here found. some_gives style v s facts wanted all.1 found
    ] refl e

-- what is known of a symbol holds of its value
pub known_holds : (style : Style) (v : Valuation) (s : ℕ) (facts : List Fact) (wanted : Fact) → AllByRecursion (FactHolds style v) facts
    → is_known facts s wanted ≡ true → Says style wanted (v.value s)
known_holds style v s facts wanted all e =
    elim (says_nothing wanted) as (λ (t : Bool). says_nothing wanted ≡ t → (t || list_any (λ fact. nat_eq (subject fact) s && gives fact wanted) facts) ≡ true → Says style wanted (v.value s)) [
      | true ↦ λ nothing found. nothing_said style (v.value s) wanted nothing
      | false ↦ λ nothing found. some_gives style v s facts wanted all found
    ] refl e
