-- A configuration of a run has the entries of its list, and in it each variable and field has a value of its kind.
use Rattle.std.proofs.Common.{◌≡◌, ℕ, suc, zero, ◌+◌, Bool, true, false, cond, nat_eq, List, [], ◌∷◌, length, map, Option, Some, refl, sym, ap, subst, ◌∙◌, arith, inl, inr}
use Rattle.std.specs.Prelude.{◌||◌, IsPermutation}
use Rattle.std.specs.List.{AllByRecursion, list_any}
use Rattle.std.specs.Option.{option_and_then, option_map}
use Rattle.std.proofs.lemmas.Bool.Decides.{nat_tests}
use Rattle.std.proofs.lemmas.List.Elements.{All-from_recursion, recursion_from_All}
use Rattle.std.proofs.lemmas.List.Sorted.{All-permutation, IsPermutation-map}
use Rattle.name_table.specs.Names.{kind_at}
use Rattle.name_table.specs.declared.names.Kind.{Kind}
use Rattle.name_table.specs.declared.names.Kind.TheVariants.{Field, IntEntry, StrEntry, IntGlobal, StrGlobal}
use Rattle.name_table.specs.declared.names.NameId.{NameId}
use Rattle.name_table.specs.declared.style.Style.{Style}
use Rattle.bst_meaning.specs.Condition.{EntryMeets, Meets}
use Rattle.bst_meaning.specs.Config.{Config, EntryState, Variable, opening, opening_entries, opening_entry_variable, opening_global, opening_variables}
use Rattle.bst_meaning.specs.Entries.{Fits}
use Rattle.bst_meaning.specs.Invariant.{AreVariables, IsEntrySound, IsWellFormed, names_of}
use Rattle.bst_meaning.specs.Keeping.{placed}
use Rattle.bst_meaning.specs.Machine.{field_in, value_at, visited_entry}
use Rattle.bst_meaning.specs.StyleParts.{kind_of}
use Rattle.bst_meaning.specs.Values.{IsOfKind}
use Rattle.bst_meaning.specs.declared.condition.Cond.{Cond}
use Rattle.bst_meaning.specs.EntryLists.{Entry, EntryList}
use Rattle.bst_meaning.specs.declared.value.Value.{Value}
use Rattle.sym_state.specs.Opening.{HasValue, IsOfItsKind}
use Rattle.sym_state.specs.Stands.{HasList, value_by}
use Rattle.sym_state.specs.Starting.{names_in_play}
use Rattle.sym_state.specs.Symbols.{Valuation}
use Rattle.sym_state.specs.WellMade.{is_variable, takes_part}
use Rattle.cert_check.proofs.Having.{ValueFits, all_ids, field_fits, value_kind, variable_fits}
use Rattle.command_flow.proofs.Openings.{Makes, is_entrys, makes_entrys, makes_globals}

-- the entries of a list, and their variables and positions left out

opened_entries : (variables : List Variable) (position : ℕ) (entries : List Entry)
    → map (λ (p : Entry × ℕ). p.0) (map placed (opening_entries variables position entries)) ≡ entries
opened_entries variables position [] = refl
opened_entries variables position (entry ∷ entries) = ap (λ (es : List Entry). entry ∷ es) (opened_entries variables (position + 1) entries)

unplaced : (entries : List EntryState) → map (λ (p : Entry × ℕ). p.0) (map placed entries) ≡ map (λ e. e.entry) entries
unplaced [] = refl
unplaced (e ∷ entries) = ap (λ (es : List Entry). e.entry ∷ es) (unplaced entries)

pub same_entries : (style : Style) (list : EntryList) (c : Config) → IsWellFormed style list c → IsPermutation list.entries (map (λ e. e.entry) c.entries)
same_entries style list c formed =
    subst (λ (es : List Entry). IsPermutation es (map (λ e. e.entry) c.entries))
    (opened_entries (opening_variables opening_entry_variable 0 style.names) 0 list.entries)
    (subst (λ (es : List Entry). IsPermutation (map (λ (p : Entry × ℕ). p.0) (map placed (opening style list).entries)) es) (unplaced c.entries)
    (IsPermutation-map (λ (p : Entry × ℕ). p.0) (map placed (opening style list).entries) (map placed c.entries) formed.order))

-- the list of a configuration of a run
pub list_there : (style : Style) (admits : Cond) (list : EntryList) (v : Valuation) (c : Config) → Fits style list → Meets style admits list
    → IsWellFormed style list c → v.count ≡ length list.entries → HasList style admits list v c
list_there style admits list v c fits meets formed count = record {
  fits = fits;
  meets = meets;
  preamble = formed.preamble;
  entries = same_entries style list c formed;
  count = count;
}

of_states : (P : Entry → Type 0) (entries : List EntryState) → AllByRecursion P (map (λ e. e.entry) entries) → AllByRecursion (λ e. P e.entry) entries
of_states P [] all = tt
of_states P (e ∷ entries) all = (all.0, of_states P entries all.1)

-- each entry of a configuration meets the condition
pub entries_meet : (style : Style) (admits : Cond) (list : EntryList) (c : Config) → Meets style admits list → IsWellFormed style list c
    → AllByRecursion (λ e. EntryMeets style admits e.entry) c.entries
entries_meet style admits list c meets formed =
    let states : List Entry = map (λ e. e.entry) c.entries in
    of_states (EntryMeets style admits) c.entries
    (recursion_from_All (EntryMeets style admits) states
    (All-permutation (EntryMeets style admits) list.entries states (same_entries style list c formed)
    (All-from_recursion (EntryMeets style admits) list.entries meets.each)))

-- a variable with this name is among these
abbrev Among : ℕ → List NameId → Type 0
Among id names = list_any (λ (n : NameId). nat_eq n.0 id) names ≡ true

record Found (id : ℕ) (variables : List Variable) : Type 0 where
  value : Value
  is : value_at id variables ≡ Some value

value_found : (id : ℕ) (variables : List Variable) → Among id (names_of variables) → Found id variables
value_found id [] among = absurd (cc)
value_found id (x ∷ variables) among =
    elim (nat_eq x.name.0 id) as (λ (t : Bool). nat_eq x.name.0 id ≡ t → (t || list_any (λ (n : NameId). nat_eq n.0 id) (names_of variables)) ≡ true
    → Found id (x ∷ variables)) [
      | true ↦ λ is later. record { value = x.value; is = ap (λ (t : Bool). cond t (Some x.value) (value_at id variables)) is }
      | false ↦ λ is later.
          let found = value_found id variables later in
          record { value = found.value; is = ap (λ (t : Bool). cond t (Some x.value) (value_at id variables)) is ∙ found.is }
    ] refl among

self_is : (n : ℕ) → nat_eq n n ≡ true
self_is n = grind (arith, nat_tests)

later_among : (id n : ℕ) (names : List NameId) → Among n names → Among n (record { 0 = id } ∷ names)
later_among id n names among =
    elim (nat_eq id n) as (λ (t : Bool). (t || list_any (λ (m : NameId). nat_eq m.0 n) names) ≡ true) [
      | true ↦ refl
      | false ↦ among
    ]

first_among : (id : ℕ) (names : List NameId) → Among id (record { 0 = id } ∷ names)
first_among id names = ap (λ (t : Bool). t || list_any (λ (m : NameId). nat_eq m.0 id) names) (self_is id)

-- a name of a kind that passes makes a variable, and each leaves those of later names
first_made : (test : Kind → Bool) (variable : ℕ → Kind → List Variable → List Variable) → Makes test variable → (id : ℕ) (kind : Kind) (later : List Variable)
    → test kind ≡ true → Among id (names_of (variable id kind later))
first_made test variable makes id kind later is = elim (makes id kind later) [
  | inl none ↦ let no : test kind ≡ false = none.0 in absurd (cc)
  | inr one ↦ subst (λ (l : List Variable). Among id (names_of l)) (sym one.2) (first_among id (names_of later))
]

rest_left : (test : Kind → Bool) (variable : ℕ → Kind → List Variable → List Variable) → Makes test variable → (id n : ℕ) (kind : Kind) (later : List Variable)
    → Among n (names_of later) → Among n (names_of (variable id kind later))
rest_left test variable makes id n kind later among = elim (makes id kind later) [
  | inl none ↦ subst (λ (l : List Variable). Among n (names_of l)) (sym none.1) among
  | inr one ↦ subst (λ (l : List Variable). Among n (names_of l)) (sym one.2) (later_among id n (names_of later) among)
]

opening_among : (test : Kind → Bool) (variable : ℕ → Kind → List Variable → List Variable) → Makes test variable → (id i : ℕ) (names : List (List ℕ × Kind)) (k : Kind)
    → kind_at (record { 0 = i }) names ≡ Some k → test k ≡ true → Among (id + i) (names_of (opening_variables variable id names))
opening_among test variable makes id i [] k is takes = absurd (cc)
opening_among test variable makes id zero (name ∷ names) k is takes =
    let same : name.1 ≡ k = cc in
    let here : id ≡ id + 0 = omega arith in
    subst (λ (n : ℕ). Among n (names_of (opening_variables variable id (name ∷ names)))) here
    (first_made test variable makes id name.1 (opening_variables variable (id + 1) names) (ap test same ∙ takes))
opening_among test variable makes id (suc i) (name ∷ names) k is takes =
    let next : (id + 1) + i ≡ id + suc i = omega arith in
    rest_left test variable makes id (id + suc i) name.1 (opening_variables variable (id + 1) names)
    (subst (λ (n : ℕ). Among n (names_of (opening_variables variable (id + 1) names))) next (opening_among test variable makes (id + 1) i names k is takes))

-- a variable of a kind has a value among variables that are named as those of the opening
variable_value : (style : Style) (admits : Cond) (test : Kind → Bool) (variable : ℕ → Kind → List Variable → List Variable) → Makes test variable
    → (variables : List Variable) (name : NameId) (k : Kind) → AreVariables style (names_of (opening_variables variable 0 style.names)) variables
    → kind_of style name ≡ Some k → test k ≡ true → (x : Value) × (value_at name.0 variables ≡ Some x) × ValueFits admits (Some k) name x
variable_value style admits test variable makes variables name k are is takes =
    let none : 0 + name.0 ≡ name.0 = omega arith in
    let there : Among name.0 (names_of variables) =
    subst (λ (ns : List NameId). Among name.0 ns) (sym are.named)
    (subst (λ (n : ℕ). Among n (names_of (opening_variables variable 0 style.names))) none (opening_among test variable makes 0 name.0 style.names k is takes)) in
    let found = value_found name.0 variables there in (
      found.value,
      found.is,
      variable_fits admits (Some k) name found.value
          (subst (λ (o : Option Kind). IsOfKind o found.value) is
          (value_kind (λ (n : NameId) (y : Value). IsOfKind (kind_of style n) y) name.0 variables found.value are.values found.is)),
    )

-- where a configuration stands at an entry, it is one of the style's and meets the condition
pub record AtEntry (style : Style) (admits : Cond) (c : Config) : Type 0 where
  pub entry : EntryState
  pub visited : visited_entry c ≡ Some entry
  pub is_sound : IsEntrySound style entry
  pub meets : EntryMeets style admits entry.entry

-- what is there has a value of its kind
value_there : (style : Style) (admits : Cond) (c : Config) (name : NameId) (k : Kind) (x : Value) → kind_of style name ≡ Some k
    → value_by (Some k) name c.globals (visited_entry c) ≡ Some x → ValueFits admits (Some k) name x
    → HasValue style admits c.globals (visited_entry c) name
value_there style admits c name k x is found fits = record {
  value = x;
  is = ap (λ (o : Option Kind). value_by o name c.globals (visited_entry c)) is ∙ found;
  valid = fits.valid;
  kind = subst (λ (o : Option Kind). IsOfItsKind admits o name x) (sym is) fits.kind;
}

or_false : (t : Bool) → (t || false) ≡ true → t ≡ true
or_false true e = refl
or_false false e = absurd (cc)

global_there : (style : Style) (admits : Cond) (list : EntryList) (c : Config) (name : NameId) (k : Kind) → IsWellFormed style list c
    → kind_of style name ≡ Some k → is_variable false k ≡ true
    → ((x : Value) → value_at name.0 c.globals ≡ Some x → value_by (Some k) name c.globals (visited_entry c) ≡ Some x)
    → HasValue style admits c.globals (visited_entry c) name
global_there style admits list c name k formed is takes by =
    let found = variable_value style admits (is_variable false) opening_global makes_globals c.globals name k formed.globals is takes in
    value_there style admits c name k found.0 is (by found.0 found.1) found.2

entrys_there : (style : Style) (admits : Cond) (c : Config) (name : NameId) (k : Kind) → AtEntry style admits c → kind_of style name ≡ Some k → is_entrys k ≡ true
    → ((x : Value) → option_and_then (λ (e : EntryState). value_at name.0 e.variables) (visited_entry c) ≡ Some x
    → value_by (Some k) name c.globals (visited_entry c) ≡ Some x)
    → HasValue style admits c.globals (visited_entry c) name
entrys_there style admits c name k at is takes by =
    let found = variable_value style admits is_entrys opening_entry_variable makes_entrys at.entry.variables name k at.is_sound.variables is takes in
    value_there style admits c name k found.0 is
    (by found.0 (ap (λ (o : Option EntryState). option_and_then (λ (e : EntryState). value_at name.0 e.variables) o) at.visited ∙ found.1)) found.2

have_value : (style : Style) (admits : Cond) (list : EntryList) (c : Config) (at_entry : Bool) (name : NameId) (k : Kind) → IsWellFormed style list c
    → (at_entry ≡ true → AtEntry style admits c) → kind_of style name ≡ Some k → takes_part at_entry k ≡ true
    → HasValue style admits c.globals (visited_entry c) name
have_value style admits list c at_entry name IntGlobal formed there is takes =
    global_there style admits list c name IntGlobal formed is refl (λ x e. e)
have_value style admits list c at_entry name StrGlobal formed there is takes =
    global_there style admits list c name StrGlobal formed is refl (λ x e. e)
have_value style admits list c at_entry name IntEntry formed there is takes =
    entrys_there style admits c name IntEntry (there (or_false at_entry takes)) is refl (λ x e. e)
have_value style admits list c at_entry name StrEntry formed there is takes =
    entrys_there style admits c name StrEntry (there (or_false at_entry takes)) is refl (λ x e. e)
have_value style admits list c at_entry name Field formed there is takes =
    let at = there takes in
    value_there style admits c name Field (field_in name at.entry.entry.fields) is
    (ap (λ (o : Option EntryState). option_map (λ (e : EntryState). field_in name e.entry.fields) o) at.visited)
    (field_fits style admits name at.entry.entry is at.is_sound.fits at.meets)
have_value style admits list c at_entry name _ formed there is takes = absurd (cc)

-- each variable and field that takes part has a value of its kind
pub have_values : (style : Style) (admits : Cond) (list : EntryList) (c : Config) (at_entry : Bool) → IsWellFormed style list c
    → (at_entry ≡ true → AtEntry style admits c) → AllByRecursion (HasValue style admits c.globals (visited_entry c)) (names_in_play style at_entry)
have_values style admits list c at_entry formed there =
    all_ids (HasValue style admits c.globals (visited_entry c)) (takes_part at_entry) 0 style.names (λ i k is takes.
    let here : i ≡ 0 + i = omega arith in
    subst (λ (n : ℕ). HasValue style admits c.globals (visited_entry c) (record { 0 = n })) here
    (have_value style admits list c at_entry (record { 0 = i }) k formed there is takes))
