-- Before the first command the opening pieces are known: each variable is exactly what it opens with.
use Rattle.std.proofs.Common.{◌≡◌, ℕ, suc, ◌+◌, ◌≤◌, ◌<◌, Bool, true, false, cond, nat_eq, List, [], ◌∷◌, length, slice_get, Option, None, Some, refl, sym, ap, subst, ◌∙◌, ◌⊎◌, inl, inr, arith}
use Rattle.std.specs.Prelude.{◌&&◌, ℤ, pos}
use Rattle.std.specs.List.{All, AllByRecursion, list_all}
use Rattle.std.specs.Option.{option_map, option_map_or}
use Rattle.std.proofs.lemmas.Bool.Decides.{nat_tests}
use Rattle.std.proofs.lemmas.List.Elements.{All-cons, All-head, All-nil, All-tail}
use Rattle.name_table.specs.Numbers.{has_32_bits}
use Rattle.name_table.specs.declared.names.Kind.{Kind}
use Rattle.name_table.specs.declared.names.Kind.TheVariants.{IntEntry, StrEntry, IntGlobal, StrGlobal}
use Rattle.name_table.specs.declared.names.NameId.{NameId}
use Rattle.name_table.specs.declared.style.Style.{Style}
use Rattle.bst_meaning.specs.Config.{EntryState, Variable, opening_entries, opening_entry_variable, opening_global, opening_variables}
use Rattle.bst_meaning.specs.Entries.{IsByteList}
use Rattle.bst_meaning.specs.Machine.{value_at}
use Rattle.bst_meaning.specs.StyleParts.{kind_of}
use Rattle.bst_meaning.specs.Values.{IsOfKind}
use Rattle.bst_meaning.specs.EntryLists.{Entry, EntryList}
use Rattle.bst_meaning.specs.declared.value.Value.{Value}
use Rattle.bst_meaning.specs.declared.value.Value.TheVariants.{Int, Str}
use Rattle.sym_state.specs.Facts.{FactHolds, subject}
use Rattle.sym_state.specs.Stands.{IsBound, value_by}
use Rattle.sym_state.specs.Starting.{IsFit, IsNumbered, has_kind, symbols_of}
use Rattle.sym_state.specs.Symbols.{IsValue, Valuation}
use Rattle.sym_state.specs.WellMade.{HasByteText, HasShortText, HasSmallInteger, IsBounded, IsOfStyle, is_variable}
use Rattle.sym_state.specs.declared.symbol.Bind.{Bind}
use Rattle.sym_state.specs.declared.symbol.Fact.{Fact}
use Rattle.sym_state.specs.declared.symbol.Fact.TheVariants.{Int as IntFact, Text as TextFact}
use Rattle.sym_state.specs.declared.symbol.Sym.{Sym}
use Rattle.sym_state.proofs.Numbering.{vars_below}
use Rattle.cert_check.proofs.Having.{got_all}
use Rattle.command_flow.specs.Between.{exact_fact, exact_facts, exactly, own_symbols}
use Rattle.command_flow.specs.Commands.{is_of_entry}
use Rattle.command_flow.proofs.Known.{About, Known}

-- a variable that each entry has its own of
abbrev pub is_entrys : Kind → Bool
is_entrys IntEntry = true
is_entrys StrEntry = true
is_entrys _ = false

-- a name of a kind that passes a test makes one variable, and another none
abbrev pub Makes : (Kind → Bool) → (ℕ → Kind → List Variable → List Variable) → Type 0
Makes test variable = (id : ℕ) (kind : Kind) (later : List Variable) → ((test kind ≡ false) × (variable id kind later ≡ later))
    ⊎ ((x : Value) × (test kind ≡ true) × (variable id kind later ≡ record { name = record { 0 = id }; value = x } ∷ later))

pub makes_globals : Makes (is_variable false) opening_global
makes_globals id IntGlobal later = inr (_, refl, refl)
makes_globals id StrGlobal later = inr (_, refl, refl)
makes_globals id _ later = inl (refl, refl)

pub makes_entrys : Makes is_entrys opening_entry_variable
makes_entrys id IntEntry later = inr (_, refl, refl)
makes_entrys id StrEntry later = inr (_, refl, refl)
makes_entrys id _ later = inl (refl, refl)

-- a variable is found by its name, which is not below this id, and whose kind passes a test
record Opens (style : Style) (test : Kind → Bool) (id : ℕ) (all : List Variable) (x : Variable) : Type 0 where
  above : id ≤ x.name.0
  found : value_at x.name.0 all ≡ Some x.value
  kind : option_map_or test (kind_of style x.name) false ≡ true

self_is : (n : ℕ) → nat_eq n n ≡ true
self_is n = grind (arith, nat_tests)

apart : (id n : ℕ) → id + 1 ≤ n → nat_eq id n ≡ false
apart id n less = grind (arith, nat_tests)

-- those of later names, with or without one more in front
without : (style : Style) (test : Kind → Bool) (id : ℕ) (all xs : List Variable) → AllByRecursion (Opens style test (id + 1) all) xs
    → AllByRecursion (Opens style test id all) xs
without style test id all [] opens = tt
without style test id all (x ∷ xs) opens =
    let above : id + 1 ≤ x.name.0 = opens.0.above in
    (record { above = omega (arith, above); found = opens.0.found; kind = opens.0.kind }, without style test id all xs opens.1)

behind : (style : Style) (test : Kind → Bool) (id : ℕ) (first : Variable) (all xs : List Variable) → first.name.0 ≡ id
    → AllByRecursion (Opens style test (id + 1) all) xs → AllByRecursion (Opens style test id (first ∷ all)) xs
behind style test id first all [] is opens = tt
behind style test id first all (x ∷ xs) is opens =
    let above : id + 1 ≤ x.name.0 = opens.0.above in (
      record {
        above = omega (arith, above);
        found = ap (λ (n : ℕ). cond (nat_eq n x.name.0) (Some first.value) (value_at x.name.0 all)) is
            ∙ ap (λ (t : Bool). cond t (Some first.value) (value_at x.name.0 all)) (apart id x.name.0 above) ∙ opens.0.found;
        kind = opens.0.kind;
      },
      behind style test id first all xs is opens.1,
    )

opens_all : (style : Style) (test : Kind → Bool) (variable : ℕ → Kind → List Variable → List Variable) → Makes test variable → (id : ℕ) (names : List (List ℕ × Kind))
    → ((k : ℕ) → slice_get style.names (id + k) ≡ slice_get names k)
    → AllByRecursion (Opens style test id (opening_variables variable id names)) (opening_variables variable id names)
opens_all style test variable makes id [] same = tt
opens_all style test variable makes id (name ∷ names) same =
    let later : List Variable = opening_variables variable (id + 1) names in
    let rest = opens_all style test variable makes (id + 1) names
    (λ k. ap (λ (n : ℕ). slice_get style.names n) (omega arith) ∙ same (suc k)) in
    let kind : kind_of style (record { 0 = id }) ≡ Some name.1 =
    ap (λ (k : ℕ). option_map (λ (entry : List ℕ × Kind). entry.1) (slice_get style.names k)) (omega arith)
    ∙ ap (λ (o : Option (List ℕ × Kind)). option_map (λ (entry : List ℕ × Kind). entry.1) o) (same 0) in
    elim (makes id name.1 later) [
      | inl none ↦ subst (λ (l : List Variable). AllByRecursion (Opens style test id l) l) (sym none.1) (without style test id later later rest)
      | inr one ↦
          let first : Variable = record { name = record { 0 = id }; value = one.0 } in
          let above : id ≤ first.name.0 = omega arith in
          let here : Opens style test id (first ∷ later) first = record {
            above = above;
            found = ap (λ (t : Bool). cond t (Some one.0) (value_at id later)) (self_is id);
            kind = ap (λ (o : Option Kind). option_map_or test o false) kind ∙ one.1;
          } in
          subst (λ (l : List Variable). AllByRecursion (Opens style test id l) l) (sym one.2) (here, behind style test id first later later refl rest)
    ]

-- what is among names whose kinds pass a test
kinds_all : (style : Style) (test weaker : Kind → Bool) (id next : ℕ) (all xs : List Variable) → ((k : Kind) → test k ≡ true → weaker k ≡ true)
    → AllByRecursion (Opens style test id all) xs → list_all (has_kind style weaker) (own_symbols next xs) ≡ true
kinds_all style test weaker id next all [] weak opens = refl
kinds_all style test weaker id next all (x ∷ xs) weak opens =
    ap (λ (t : Bool). t && list_all (has_kind style weaker) (own_symbols (suc next) xs)) (by (kind_of style x.name) opens.0.kind)
    ∙ kinds_all style test weaker id (suc next) all xs weak opens.1
  where
    by : (o : Option Kind) → option_map_or test o false ≡ true → option_map_or weaker o false ≡ true
    by None e = absurd (cc)
    by (Some k) e = weak k e

-- the value of the variable at a number
abbrev value_or : List Variable → ℕ → Value
value_or xs s = option_map_or (λ x. x.value) (slice_get xs s) (Int (pos 0))

-- each symbol has the value of its variable
abbrev exact_values : List Variable → EntryList → Valuation
exact_values xs list = record { value = value_or xs; position = 0; count = length list.entries }

-- symbols numbered from here have the values of these variables
abbrev HasValues : (ℕ → Value) → ℕ → List Variable → Type 0
HasValues value next xs = (i : ℕ) (x : Variable) → slice_get xs i ≡ Some x → value (next + i) ≡ x.value

next_values : (value : ℕ → Value) (next : ℕ) (x : Variable) (xs : List Variable) → HasValues value next (x ∷ xs)
    → (value next ≡ x.value) × HasValues value (suc next) xs
next_values value next x xs has =
    let here : next ≡ next + 0 = omega arith in (
      ap value here ∙ has 0 x refl,
      λ i y e. let there : suc next + i ≡ next + suc i = omega arith in ap value there ∙ has (suc i) y e,
    )

exact_facts_hold : (style : Style) (v : Valuation) (next : ℕ) (xs : List Variable) → HasValues v.value next xs → AllByRecursion (FactHolds style v) (exact_facts next xs)
exact_facts_hold style v next [] has = tt
exact_facts_hold style v next (x ∷ xs) has =
    let parts = next_values v.value next x xs has in
    by x.value parts.0 (exact_facts_hold style v (suc next) xs parts.1)
  where
    by : (y : Value) → v.value next ≡ y → AllByRecursion (FactHolds style v) (exact_facts (suc next) xs)
        → AllByRecursion (FactHolds style v) (exact_fact next y (exact_facts (suc next) xs))
    by (Int n) is more = (is, more)
    by (Str text) is more = (is, more)
    by _ is more = more

binds_open : (style : Style) (test : Kind → Bool) (v : Valuation) (globals all xs : List Variable) (entry : Option EntryState) (id next : ℕ)
    → ((k : Kind) (name : NameId) → test k ≡ true → value_by (Some k) name globals entry ≡ value_at name.0 all)
    → AllByRecursion (Opens style test id all) xs → HasValues v.value next xs → AllByRecursion (IsBound style v globals entry) (own_symbols next xs)
binds_open style test v globals all [] entry id next same opens has = tt
binds_open style test v globals all (x ∷ xs) entry id next same opens has =
    let parts = next_values v.value next x xs has in (
      by (kind_of style x.name) opens.0.kind ∙ opens.0.found ∙ ap Some (sym parts.0),
      binds_open style test v globals all xs entry id (suc next) same opens.1 parts.1,
    )
  where
    by : (o : Option Kind) → option_map_or test o false ≡ true → value_by o x.name globals entry ≡ value_at x.name.0 all
    by None e = absurd (cc)
    by (Some k) e = same k x.name e

all_values : (style : Style) (xs : List Variable) → AllByRecursion (λ x. IsOfKind (kind_of style x.name) x.value) xs → (s : ℕ) → IsValue (value_or xs s)
all_values style xs all s =
    elim (slice_get xs s) as (λ (o : Option Variable). slice_get xs s ≡ o → IsValue (option_map_or (λ x. x.value) o (Int (pos 0)))) [
      | Some x ↦ λ found. valid (kind_of style x.name) x (got_all (λ (y : Variable). IsOfKind (kind_of style y.name) y.value) xs s x all found)
      | None ↦ λ found. refl
    ] refl
  where
    valid : (o : Option Kind) (x : Variable) → IsOfKind o x.value → IsValue x.value
    valid o x h = plain o x.value h
      where
        plain : (o : Option Kind) (y : Value) → IsOfKind o y → IsValue y
        plain (Some IntEntry) (Int n) h = h
        plain (Some IntGlobal) (Int n) h = h
        plain (Some StrEntry) (Str bytes) h = h.0
        plain (Some StrGlobal) (Str bytes) h = h.0
        plain _ _ h = absurd h

at_place : (xs : List Variable) → HasValues (value_or xs) 0 xs
at_place xs = λ i x e.
    let here : 0 + i ≡ i = omega arith in
    ap (value_or xs) here ∙ ap (λ (o : Option Variable). option_map_or (λ y. y.value) o (Int (pos 0))) e

-- the piece of variables is known where they have their values
exactly_known : (style : Style) (list : EntryList) (test : Kind → Bool) (globals xs : List Variable) (entry : Option EntryState)
    → ((k : Kind) (name : NameId) → test k ≡ true → value_by (Some k) name globals entry ≡ value_at name.0 xs)
    → AllByRecursion (Opens style test 0 xs) xs → AllByRecursion (λ x. IsOfKind (kind_of style x.name) x.value) xs
    → Known style list 0 (exactly xs) globals entry
exactly_known style list test globals xs entry same opens all = record {
  v = exact_values xs list;
  values = all_values style xs all;
  position = refl;
  count = refl;
  met = record {
    vars = binds_open style test (exact_values xs list) globals xs xs entry 0 0 same opens (at_place xs);
    fields = tt;
    facts = exact_facts_hold style (exact_values xs list) 0 xs (at_place xs);
    rows = tt;
  };
}

global_by : (globals : List Variable) (entry : Option EntryState) (k : Kind) (name : NameId) → is_variable false k ≡ true
    → value_by (Some k) name globals entry ≡ value_at name.0 globals
global_by globals entry IntGlobal name e = refl
global_by globals entry StrGlobal name e = refl
global_by globals entry _ name e = absurd (cc)

entry_by : (globals : List Variable) (e : EntryState) (k : Kind) (name : NameId) → is_entrys k ≡ true
    → value_by (Some k) name globals (Some e) ≡ value_at name.0 e.variables
entry_by globals e IntEntry name is = refl
entry_by globals e StrEntry name is = refl
entry_by globals e _ name is = absurd (cc)

-- each of an entry's variables opens with a value of its kind
entrys_from : (style : Style) (id : ℕ) (names : List (List ℕ × Kind)) → ((k : ℕ) → slice_get style.names (id + k) ≡ slice_get names k)
    → AllByRecursion (λ x. IsOfKind (kind_of style x.name) x.value) (opening_variables opening_entry_variable id names)
entrys_from style id [] same = tt
entrys_from style id (name ∷ names) same =
    by name.1
    (ap (λ (k : ℕ). option_map (λ (entry : List ℕ × Kind). entry.1) (slice_get style.names k)) (omega arith)
    ∙ ap (λ (o : Option (List ℕ × Kind)). option_map (λ (entry : List ℕ × Kind). entry.1) o) (same 0))
    (entrys_from style (id + 1) names (λ k. ap (λ (n : ℕ). slice_get style.names n) (omega arith) ∙ same (suc k)))
  where
    later : List Variable
    later = opening_variables opening_entry_variable (id + 1) names

    by : (kind : Kind) → kind_of style (record { 0 = id }) ≡ Some kind → AllByRecursion (λ x. IsOfKind (kind_of style x.name) x.value) later
        → AllByRecursion (λ x. IsOfKind (kind_of style x.name) x.value) (opening_entry_variable id kind later)
    by IntEntry is more = (subst (λ (o : Option Kind). IsOfKind o (Int (pos 0))) (sym is) refl, more)
    by StrEntry is more = (subst (λ (o : Option Kind). IsOfKind o (Str [])) (sym is) (tt, omega arith), more)
    by _ is more = more

-- from the style's names on
abbrev opening_of : Style → (ℕ → Kind → List Variable → List Variable) → List Variable
opening_of style variable = opening_variables variable 0 style.names

opens_names : (style : Style) (test : Kind → Bool) (variable : ℕ → Kind → List Variable → List Variable) → Makes test variable
    → AllByRecursion (Opens style test 0 (opening_of style variable)) (opening_of style variable)
opens_names style test variable makes =
    opens_all style test variable makes 0 style.names (λ k. let here : 0 + k ≡ k = omega arith in ap (λ (n : ℕ). slice_get style.names n) here)

pub entrys_of_kind : (style : Style) → AllByRecursion (λ x. IsOfKind (kind_of style x.name) x.value) (opening_of style opening_entry_variable)
entrys_of_kind style = entrys_from style 0 style.names (λ k. let here : 0 + k ≡ k = omega arith in ap (λ (n : ℕ). slice_get style.names n) here)

pub globals_known : (style : Style) (list : EntryList) (entry : Option EntryState)
    → AllByRecursion (λ x. IsOfKind (kind_of style x.name) x.value) (opening_of style opening_global)
    → Known style list 0 (exactly (opening_of style opening_global)) (opening_of style opening_global) entry
globals_known style list entry all =
    exactly_known style list (is_variable false) (opening_of style opening_global) (opening_of style opening_global) entry
    (global_by (opening_of style opening_global) entry) (opens_names style (is_variable false) opening_global makes_globals) all

entry_known : (style : Style) (list : EntryList) (e : EntryState) → e.variables ≡ opening_of style opening_entry_variable
    → AllByRecursion (λ x. IsOfKind (kind_of style x.name) x.value) (opening_of style opening_entry_variable)
    → Known style list 0 (exactly (opening_of style opening_entry_variable)) [] (Some e)
entry_known style list e is all =
    exactly_known style list is_entrys [] (opening_of style opening_entry_variable) (Some e)
    (λ k name h. entry_by [] e k name h ∙ ap (value_at name.0) is) (opens_names style is_entrys opening_entry_variable makes_entrys) all

pub entries_known : (style : Style) (list : EntryList) (position : ℕ) (entries : List Entry)
    → AllByRecursion (λ x. IsOfKind (kind_of style x.name) x.value) (opening_of style opening_entry_variable)
    → AllByRecursion (λ e. Known style list 0 (exactly (opening_of style opening_entry_variable)) [] (Some e))
    (opening_entries (opening_of style opening_entry_variable) position entries)
entries_known style list position [] all = tt
entries_known style list position (entry ∷ entries) all = (
  entry_known style list (record { entry = entry; variables = opening_of style opening_entry_variable; position = position }) refl all,
  entries_known style list (position + 1) entries all,
)

pub globals_about : (style : Style) → About style (is_variable false) (exactly (opening_of style opening_global))
globals_about style = record {
  stack = refl;
  vars = kinds_all style (is_variable false) (is_variable false) 0 0 (opening_of style opening_global) (opening_of style opening_global) (λ k e. e)
      (opens_names style (is_variable false) opening_global makes_globals);
  fields = refl;
}

pub entry_about : (style : Style) → About style is_of_entry (exactly (opening_of style opening_entry_variable))
entry_about style = record {
  stack = refl;
  vars = kinds_all style is_entrys is_of_entry 0 0 (opening_of style opening_entry_variable) (opening_of style opening_entry_variable) weaker
      (opens_names style is_entrys opening_entry_variable makes_entrys);
  fields = refl;
}
  where
    weaker : (k : Kind) → is_entrys k ≡ true → is_of_entry k ≡ true
    weaker IntEntry e = refl
    weaker StrEntry e = refl
    weaker _ e = absurd (cc)

-- what holds of each exact fact of values that variables may have
exact_are : (P : Fact → Type 0) (style : Style) (next : ℕ) (xs : List Variable) → ((s : Sym) (n : ℤ) → has_32_bits n ≡ true → P (IntFact s n))
    → ((s : Sym) (text : List ℕ) → IsByteList text → length text ≤ 20000 → P (TextFact s text))
    → AllByRecursion (λ x. IsOfKind (kind_of style x.name) x.value) xs → All P (exact_facts next xs)
exact_are P style next [] ints texts all = All-nil P
exact_are P style next (x ∷ xs) ints texts all =
    by (kind_of style x.name) x.value all.0 (exact_are P style (suc next) xs ints texts all.1)
  where
    by : (o : Option Kind) (y : Value) → IsOfKind o y → All P (exact_facts (suc next) xs) → All P (exact_fact next y (exact_facts (suc next) xs))
    by (Some IntEntry) (Int n) h more = All-cons P (IntFact (record { 0 = next }) n) (exact_facts (suc next) xs) (ints (record { 0 = next }) n h) more
    by (Some IntGlobal) (Int n) h more = All-cons P (IntFact (record { 0 = next }) n) (exact_facts (suc next) xs) (ints (record { 0 = next }) n h) more
    by (Some StrEntry) (Str bytes) h more =
        let few : length bytes ≤ 250 = h.1 in
        All-cons P (TextFact (record { 0 = next }) bytes) (exact_facts (suc next) xs) (texts (record { 0 = next }) bytes h.0 (omega (arith, few))) more
    by (Some StrGlobal) (Str bytes) h more =
        All-cons P (TextFact (record { 0 = next }) bytes) (exact_facts (suc next) xs) (texts (record { 0 = next }) bytes h.0 h.1) more
    by _ _ h more = absurd h

-- each exact fact is about a symbol of its variable
subjects_below : (n next : ℕ) (xs : List Variable) → All (λ b. b.sym.0 < n) (own_symbols next xs) → All (λ f. subject f < n) (exact_facts next xs)
subjects_below n next [] all = All-nil (λ f. subject f < n)
subjects_below n next (x ∷ xs) all =
    let first : Bind = record { name = x.name; sym = record { 0 = next } } in
    by x.value (All-head (λ (b : Bind). b.sym.0 < n) first (own_symbols (suc next) xs) all)
    (subjects_below n (suc next) xs (All-tail (λ (b : Bind). b.sym.0 < n) first (own_symbols (suc next) xs) all))
  where
    by : (y : Value) → next < n → All (λ f. subject f < n) (exact_facts (suc next) xs) → All (λ f. subject f < n) (exact_fact next y (exact_facts (suc next) xs))
    by (Int k) less more = All-cons (λ f. subject f < n) (IntFact (record { 0 = next }) k) (exact_facts (suc next) xs) less more
    by (Str text) less more = All-cons (λ f. subject f < n) (TextFact (record { 0 = next }) text) (exact_facts (suc next) xs) less more
    by _ less more = more

pub exactly_numbered : (xs : List Variable) → IsNumbered (exactly xs)
exactly_numbered xs = record {
  facts = subjects_below (symbols_of (exactly xs)) 0 xs (vars_below (symbols_of (exactly xs)) (exactly xs) (omega arith));
  rows = All-nil _;
}

pub exactly_fit : (style : Style) (xs : List Variable) → AllByRecursion (λ x. IsOfKind (kind_of style x.name) x.value) xs → IsFit style (exactly xs)
exactly_fit style xs all = record {
  of_style = exact_are (IsOfStyle style) style 0 xs (λ s n h. tt) (λ s text h few. tt) all;
  integers = exact_are HasSmallInteger style 0 xs (λ s n h. h) (λ s text h few. tt) all;
  bytes = exact_are HasByteText style 0 xs (λ s n h. tt) (λ s text h few. h) all;
  texts = exact_are HasShortText style 0 xs (λ s n h. tt) (λ s text h few. omega (arith, few)) all;
  rows = All-nil IsBounded;
}
