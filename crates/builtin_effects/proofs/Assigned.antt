-- A configuration in which a variable has a new value, and where a state with another binding stands for it.
use Rattle.std.proofs.Common.{◌≡◌, ℕ, ◌+◌, Bool, true, false, cond, nat_eq, List, map, Option, None, Some, refl, sym, ap, subst, ◌∙◌, arith}
use Rattle.std.proofs.Math.ListN.{set}
use Rattle.std.specs.Prelude.{IsPermutation, slice_get}
use Rattle.std.specs.Option.{option_and_then, option_map, option_map_or}
use Rattle.name_table.specs.declared.names.Kind.{Kind}
use Rattle.name_table.specs.declared.names.Kind.TheVariants.{Builtin as BuiltinKind, Wizard, Field, IntEntry, StrEntry, IntGlobal, StrGlobal}
use Rattle.name_table.specs.declared.names.NameId.{NameId}
use Rattle.name_table.specs.declared.style.Style.{Style}
use Rattle.bst_meaning.specs.EntryLists.{Entry}
use Rattle.bst_meaning.specs.declared.value.Value.{Value}
use Rattle.bst_meaning.specs.Config.{Config, EntryState, Variable, Visit}
use Rattle.bst_meaning.specs.Machine.{assigned_by, field_in, next_index, value_at, visited_entry, visited_index, with_entry_variable, with_variable}
use Rattle.bst_meaning.specs.StyleParts.{kind_of}
use Rattle.bst_meaning.proofs.Replacing.{set_element, set_length, set_seen, variable_kept, variable_new}
use Rattle.sym_state.specs.State.{State}
use Rattle.sym_state.specs.declared.symbol.Sym.{Sym}
use Rattle.sym_state.specs.Changes.{with_bind}
use Rattle.sym_state.specs.Stands.{IsVisiting, Stands, value_by}
use Rattle.sym_state.specs.Symbols.{Valuation}
use Rattle.sym_state.specs.WellMade.{is_variable}
use Rattle.sym_state.proofs.Pushing.{satisfies_same}
use Rattle.sym_state.proofs.Spots.{Spot}
use Rattle.builtin_effects.proofs.Rebinding.{Kept, Unique, bound_at, rebound_bound}

-- one variable has a new value, and everything else that a state speaks of is as it was
pub record Assigned (style : Style) (name : NameId) (value : Value) (c after : Config) : Type 0 where
  pub here : value_by (kind_of style name) name after.globals (visited_entry after) ≡ Some value
  pub kept : Kept style name c after
  pub stack : after.stack ≡ c.stack
  pub preamble : after.preamble ≡ c.preamble
  pub entries : map (λ e. e.entry) after.entries ≡ map (λ e. e.entry) c.entries
  pub visiting : (v : Valuation) → IsVisiting v c → IsVisiting v after

-- a global variable
abbrev with_globals : List Variable → Config → Config
with_globals globals c = record c { globals = globals }

global_kept : (new : Variable) (c : Config) (kind : Option Kind) (n : NameId) → nat_eq n.0 new.name.0 ≡ false
    → value_by kind n (with_variable new c.globals) (visited_entry c) ≡ value_by kind n c.globals (visited_entry c)
global_kept new c (Some IntGlobal) n e = variable_kept new n.0 c.globals e
global_kept new c (Some StrGlobal) n e = variable_kept new n.0 c.globals e
global_kept new c (Some IntEntry) n e = refl
global_kept new c (Some StrEntry) n e = refl
global_kept new c (Some Field) n e = refl
global_kept new c (Some (BuiltinKind o)) n e = refl
global_kept new c (Some (Wizard body)) n e = refl
global_kept new c None n e = refl

global_assigned : (style : Style) (new : Variable) (c : Config) → value_by (kind_of style new.name) new.name (with_variable new c.globals) (visited_entry c) ≡ Some new.value
    → Assigned style new.name new.value c (with_globals (with_variable new c.globals) c)
global_assigned style new c here = record {
  here = here;
  kept = λ n e. global_kept new c (kind_of style n) n e;
  stack = refl;
  preamble = refl;
  entries = refl;
  visiting = λ v h. record { entry = h.entry; is_visited = h.is_visited; visit = h.visit; goes_on = h.goes_on; before = h.before };
}

-- a variable of the visited entry
abbrev with_new : Variable → EntryState → EntryState
with_new new e = record e { variables = with_variable new e.variables }

abbrev with_entries : List EntryState → Config → Config
with_entries entries c = record c { entries = entries }

-- the visited entry, at its place
record Visited (c : Config) (e : EntryState) : Type 0 where
  pub at : ℕ
  pub index : visited_index c ≡ Some at
  pub element : slice_get c.entries at ≡ Some e

visited_at : (c : Config) (e : EntryState) → visited_entry c ≡ Some e → Visited c e
visited_at c e is =
    elim (visited_index c) as (λ (o : Option ℕ). visited_index c ≡ o → option_and_then (slice_get c.entries) o ≡ Some e → Visited c e) [
      | Some at ↦ λ index found. record { at = at; index = index; element = found }
      | None ↦ λ index found. absurd (cc)
    ] refl is

-- the entries after it are as many, and the index is the same
entries_are : (new : Variable) (c : Config) (e : EntryState) (v : Visited c e) → with_entry_variable new (visited_index c) c.entries ≡ set c.entries v.at (with_new new e)
entries_are new c e v =
    ap (λ (o : Option ℕ). with_entry_variable new o c.entries) v.index
    ∙ ap (λ (o : Option EntryState). option_map_or (λ x. set c.entries v.at (with_new new x)) o c.entries) v.element

index_same : (c : Config) (at : ℕ) (e : EntryState) → visited_index (with_entries (set c.entries at e) c) ≡ visited_index c
index_same c at e =
    ap (λ (n : ℕ). cond c.running (option_map (λ (visit : Visit). next_index visit n) c.visit) None) (set_length c.entries at e)

visited_new : (c : Config) (e new : EntryState) (v : Visited c e) → visited_entry (with_entries (set c.entries v.at new) c) ≡ Some new
visited_new c e new v =
    ap (λ (o : Option ℕ). option_and_then (slice_get (set c.entries v.at new)) o) (index_same c v.at new ∙ v.index)
    ∙ set_element c.entries v.at e new v.element

entry_kept : (new : Variable) (c after : Config) (e : EntryState) (kind : Option Kind) (n : NameId) → nat_eq n.0 new.name.0 ≡ false
    → visited_entry c ≡ Some e → visited_entry after ≡ Some (with_new new e) → after.globals ≡ c.globals → value_by kind n after.globals (visited_entry after) ≡ value_by kind n c.globals (visited_entry c)
entry_kept new c after e (Some IntGlobal) n differs before behind globals = ap (λ (l : List Variable). value_at n.0 l) globals
entry_kept new c after e (Some StrGlobal) n differs before behind globals = ap (λ (l : List Variable). value_at n.0 l) globals
entry_kept new c after e (Some IntEntry) n differs before behind globals =
    ap (λ (o : Option EntryState). option_and_then (λ x. value_at n.0 x.variables) o) behind ∙ variable_kept new n.0 e.variables differs
    ∙ sym (ap (λ (o : Option EntryState). option_and_then (λ x. value_at n.0 x.variables) o) before)
entry_kept new c after e (Some StrEntry) n differs before behind globals =
    ap (λ (o : Option EntryState). option_and_then (λ x. value_at n.0 x.variables) o) behind ∙ variable_kept new n.0 e.variables differs
    ∙ sym (ap (λ (o : Option EntryState). option_and_then (λ x. value_at n.0 x.variables) o) before)
entry_kept new c after e (Some Field) n differs before behind globals =
    ap (λ (o : Option EntryState). option_map (λ x. field_in n x.entry.fields) o) behind
    ∙ sym (ap (λ (o : Option EntryState). option_map (λ x. field_in n x.entry.fields) o) before)
entry_kept new c after e (Some (BuiltinKind o)) n differs before behind globals = refl
entry_kept new c after e (Some (Wizard body)) n differs before behind globals = refl
entry_kept new c after e None n differs before behind globals = refl

-- what a command has visited doesn't change
visit_kept : (v : Valuation) (c after : Config) (e : EntryState) → visited_entry after ≡ Some e → after.visit ≡ c.visit → IsVisiting v c → IsVisiting v after
visit_kept v c after e behind visit h = record { entry = e; is_visited = behind; visit = h.visit; goes_on = visit ∙ h.goes_on; before = h.before }

entry_assigned : (style : Style) (new : Variable) (c : Config) (e : EntryState) (v : Visited c e) → visited_entry c ≡ Some e
    → (visited_entry (with_entries (set c.entries v.at (with_new new e)) c) ≡ Some (with_new new e)
    → value_by (kind_of style new.name) new.name c.globals (visited_entry (with_entries (set c.entries v.at (with_new new e)) c)) ≡ Some new.value)
    → Assigned style new.name new.value c (with_entries (set c.entries v.at (with_new new e)) c)
entry_assigned style new c e v is here =
    let after : Config = with_entries (set c.entries v.at (with_new new e)) c in
    let behind : visited_entry after ≡ Some (with_new new e) = visited_new c e (with_new new e) v in record {
      here = here behind;
      kept = λ n differs. entry_kept new c after e (kind_of style n) n differs is behind refl;
      stack = refl;
      preamble = refl;
      entries = set_seen (λ (x : EntryState). x.entry) c.entries v.at e (with_new new e) v.element refl;
      visiting = λ w h. visit_kept w c after (with_new new e) behind refl h;
    }

-- the entry whose variable has a value is visited
record Old (c : Config) (id : ℕ) (value : Value) : Type 0 where
  pub entry : EntryState
  pub visited : visited_entry c ≡ Some entry
  pub is : value_at id entry.variables ≡ Some value

old_value : (c : Config) (id : ℕ) (value : Value) → option_and_then (λ e. value_at id e.variables) (visited_entry c) ≡ Some value → Old c id value
old_value c id value is =
    elim (visited_entry c) as (λ (o : Option EntryState). visited_entry c ≡ o → option_and_then (λ e. value_at id e.variables) o ≡ Some value → Old c id value) [
      | Some e ↦ λ visited found. record { entry = e; visited = visited; is = found }
      | None ↦ λ visited found. absurd (cc)
    ] refl is

entry_set : (style : Style) (new : Variable) (c : Config) (old : Value) → option_and_then (λ e. value_at new.name.0 e.variables) (visited_entry c) ≡ Some old
    → ((d : Config) → value_by (kind_of style new.name) new.name d.globals (visited_entry d) ≡ option_and_then (λ e. value_at new.name.0 e.variables) (visited_entry d))
    → Assigned style new.name new.value c (with_entries (with_entry_variable new (visited_index c) c.entries) c)
entry_set style new c old is by =
    let found = old_value c new.name.0 old is in
    let e : EntryState = found.entry in
    let v = visited_at c e found.visited in
    let after : Config = with_entries (set c.entries v.at (with_new new e)) c in
    subst (λ (l : List EntryState). Assigned style new.name new.value c (with_entries l c)) (sym (entries_are new c e v))
    (entry_assigned style new c e v found.visited (λ behind. by after
    ∙ ap (λ (o : Option EntryState). option_and_then (λ x. value_at new.name.0 x.variables) o) behind ∙ variable_new new e.variables old found.is))

global_set : (style : Style) (new : Variable) (c : Config) (old : Value) → value_at new.name.0 c.globals ≡ Some old
    → ((d : Config) → value_by (kind_of style new.name) new.name d.globals (visited_entry d) ≡ value_at new.name.0 d.globals)
    → Assigned style new.name new.value c (with_globals (with_variable new c.globals) c)
global_set style new c old is by =
    global_assigned style new c (by (with_globals (with_variable new c.globals) c) ∙ variable_new new c.globals old is)

-- what a variable that has a value is assigned
pub assigned : (style : Style) (new : Variable) (kind : Kind) (at_entry : Bool) (c : Config) (old : Value) → kind_of style new.name ≡ Some kind
    → is_variable at_entry kind ≡ true → value_by (Some kind) new.name c.globals (visited_entry c) ≡ Some old
    → Assigned style new.name new.value c (assigned_by (kind_of style new.name) new c)
assigned style new kind at_entry c old is variable found =
    subst (λ (k : Option Kind). Assigned style new.name new.value c (assigned_by k new c)) (sym is) (by kind is variable found)
  where
    by : (k : Kind) → kind_of style new.name ≡ Some k → is_variable at_entry k ≡ true → value_by (Some k) new.name c.globals (visited_entry c) ≡ Some old
        → Assigned style new.name new.value c (assigned_by (Some k) new c)
    by IntGlobal is variable found = global_set style new c old found (λ d. ap (λ (o : Option Kind). value_by o new.name d.globals (visited_entry d)) is)
    by StrGlobal is variable found = global_set style new c old found (λ d. ap (λ (o : Option Kind). value_by o new.name d.globals (visited_entry d)) is)
    by IntEntry is variable found = entry_set style new c old found (λ d. ap (λ (o : Option Kind). value_by o new.name d.globals (visited_entry d)) is)
    by StrEntry is variable found = entry_set style new c old found (λ d. ap (λ (o : Option Kind). value_by o new.name d.globals (visited_entry d)) is)
    by _ is variable found = absurd (cc)

-- a variable has a value
pub record HasValue (s : Spot) (name : NameId) (kind : Kind) : Type 0 where
  pub value : Value
  pub is : value_by (Some kind) name s.c.globals (visited_entry s.c) ≡ Some value

pub variable_bound : (s : Spot) (name : NameId) (kind : Kind) → kind_of s.style name ≡ Some kind → is_variable s.state.at_entry kind ≡ true → HasValue s name kind
variable_bound s name kind is variable =
    let found = bound_at (λ b. value_by (kind_of s.style b.name) b.name s.c.globals (visited_entry s.c) ≡ Some (s.v.value b.sym.0)) (is_variable s.state.at_entry) 0 name.0 s.style.names kind
    s.state.vars is variable s.made.binds_vars s.stands.vars in
    let from_zero : 0 + name.0 ≡ name.0 = omega arith in
    let named : found.bind.name ≡ name = ap (λ (n : ℕ). let id : NameId = record { 0 = n } in id) (found.named ∙ from_zero) in record {
      value = s.v.value found.bind.sym.0;
      is = sym (ap (λ (k : Option Kind). value_by k name s.c.globals (visited_entry s.c)) is)
          ∙ subst (λ (n : NameId). value_by (kind_of s.style n) n s.c.globals (visited_entry s.c) ≡ Some (s.v.value found.bind.sym.0)) named found.holds;
    }

-- where a state with another binding stands
pub rebound_stands : (s : Spot) (w : Valuation) (state : State) (c after : Config) (name : NameId) (sym_of : Sym)
    → Stands s.style s.admits s.list w state c s.below → Unique state.vars → Unique state.fields
    → Assigned s.style name (w.value sym_of.0) c after → Stands s.style s.admits s.list w (with_bind name sym_of state) after s.below
rebound_stands s w state c after name sym_of h vars fields a = record {
  satisfied = satisfies_same s.style s.admits w state (with_bind name sym_of state) refl refl refl h.satisfied;
  has_list = record {
    fits = h.has_list.fits;
    meets = h.has_list.meets;
    preamble = a.preamble ∙ h.has_list.preamble;
    entries = subst (λ (l : List Entry). IsPermutation s.list.entries l) (sym a.entries) h.has_list.entries;
    count = h.has_list.count;
  };
  visiting = λ entered. a.visiting w (h.visiting entered);
  stack = a.stack ∙ h.stack;
  whole = h.whole;
  vars = rebound_bound s.style w name sym_of c after state.vars a.kept a.here vars h.vars;
  fields = rebound_bound s.style w name sym_of c after state.fields a.kept a.here fields h.fields;
}
