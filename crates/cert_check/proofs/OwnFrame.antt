-- A unit's own check keeps the values of variables that the unit doesn't write, and of fields.
use Rattle.std.proofs.Common.{◌≡◌, Bool, true, false, List, slice_get, Option, Some, refl, sym, ap, subst, ◌∙◌}
use Rattle.std.specs.Option.{option_and_then}
use Rattle.std.specs.Prelude.{ℕ}
use Rattle.name_table.specs.declared.names.Kind.{Kind}
use Rattle.name_table.specs.declared.names.Kind.TheVariants.{Field, IntEntry, StrEntry, IntGlobal, StrGlobal}
use Rattle.name_table.specs.declared.names.NameId.{NameId}
use Rattle.bst_meaning.specs.Config.{Config, EntryState, Frame}
use Rattle.bst_meaning.specs.Machine.{visited_entry, visited_index}
use Rattle.bst_meaning.specs.StyleParts.{kind_of}
use Rattle.bst_meaning.specs.EntryLists.{EntryList}
use Rattle.sym_state.specs.State.{State}
use Rattle.sym_state.specs.Changes.{symbol_at}
use Rattle.sym_state.specs.Stands.{value_by}
use Rattle.sym_state.specs.Symbols.{Valuation}
use Rattle.sym_state.specs.WellMade.{is_field, is_variable}
use Rattle.sym_state.proofs.Entailed.{found_value}
use Rattle.sym_state.proofs.Making.{found_below}
use Rattle.cert_check.specs.Walks.{Scope, may_write}
use Rattle.cert_check.proofs.Safety.{Reaches, Remains, Start, same_index}
use Rattle.cert_check.proofs.Symbols.{symbol_there}

-- the visited entry stays where the entries do
pub same_visited : (frames : List Frame) (c d : Config) → Remains false frames c d → visited_entry d ≡ visited_entry c
same_visited frames c d stays =
    ap (λ (es : List EntryState). option_and_then (slice_get es) (visited_index d)) (stays.entries refl)
    ∙ ap (λ (o : Option ℕ). option_and_then (slice_get c.entries) o) (same_index c d stays.running stays.visit stays.order)

-- the value of a symbol that stays
module _ (scope : Scope) (list : EntryList) (frames : List Frame) (s : Start scope list) (end : State) (w : Valuation) (d : Config) where
  -- a variable that the unit doesn't write
  variable_kept : Reaches scope list frames s end w d → (name : NameId) (k : Kind) → may_write scope.writes name ≡ false → kind_of scope.style name ≡ Some k
      → is_variable s.state.at_entry k ≡ true
      → value_by (kind_of scope.style name) name d.globals (visited_entry d) ≡ value_by (kind_of scope.style name) name s.c.globals (visited_entry s.c)
  variable_kept reached name k not is variable =
      let found = symbol_there (is_variable s.state.at_entry) scope.style name k s.state.vars is variable s.made.binds_vars in
      let after = found_value scope.style w d name end.vars found.symbol reached.stands.vars (reached.follows.vars name not ∙ found.is) in
      let before = found_value scope.style s.v s.c name s.state.vars found.symbol s.stands.vars found.is in
      let same = reached.agrees.value found.symbol.0 (found_below s.state.next name s.state.vars found.symbol s.made.vars found.is) in
      after ∙ ap Some same ∙ sym before

  -- a field
  field_kept : Reaches scope list frames s end w d → (name : NameId) (k : Kind) → kind_of scope.style name ≡ Some k → is_field s.state.at_entry k ≡ true
      → value_by (kind_of scope.style name) name d.globals (visited_entry d) ≡ value_by (kind_of scope.style name) name s.c.globals (visited_entry s.c)
  field_kept reached name k is field =
      let found = symbol_there (is_field s.state.at_entry) scope.style name k s.state.fields is field s.made.binds_fields in
      let after = found_value scope.style w d name end.fields found.symbol reached.stands.fields
      (ap (symbol_at name) reached.follows.grows.fields ∙ found.is) in
      let before = found_value scope.style s.v s.c name s.state.fields found.symbol s.stands.fields found.is in
      let same = reached.agrees.value found.symbol.0 (found_below s.state.next name s.state.fields found.symbol s.made.fields found.is) in
      after ∙ ap Some same ∙ sym before

  -- any name that the unit doesn't write
  pub name_kept : Reaches scope list frames s end w d → (name : NameId) → may_write scope.writes name ≡ false
      → value_by (kind_of scope.style name) name d.globals (visited_entry d) ≡ value_by (kind_of scope.style name) name s.c.globals (visited_entry s.c)
  name_kept reached name not = by_kind (kind_of scope.style name) refl
    where
      Same : Option Kind → Type 0
      Same found = value_by found name d.globals (visited_entry d) ≡ value_by found name s.c.globals (visited_entry s.c)

      at_entry : (k : Kind) → kind_of scope.style name ≡ Some k → (t : Bool) → s.state.at_entry ≡ t
          → (s.state.at_entry ≡ true → Same (kind_of scope.style name)) → (visited_entry d ≡ visited_entry s.c → Same (Some k)) → Same (Some k)
      at_entry k is true there by_symbol by_entry = subst (λ (o : Option Kind). Same o) is (by_symbol there)
      at_entry k is false there by_symbol by_entry = by_entry (same_visited frames s.c d (subst (λ (t : Bool). Remains t frames s.c d) there reached.remains))

      by_kind : (found : Option Kind) → kind_of scope.style name ≡ found → Same found
      by_kind (Some IntGlobal) is = subst (λ (o : Option Kind). Same o) is (variable_kept reached name IntGlobal not is refl)
      by_kind (Some StrGlobal) is = subst (λ (o : Option Kind). Same o) is (variable_kept reached name StrGlobal not is refl)
      by_kind (Some IntEntry) is = at_entry IntEntry is s.state.at_entry refl (λ there. variable_kept reached name IntEntry not is there)
          (λ same. ap (λ (o : Option EntryState). value_by (Some IntEntry) name s.c.globals o) same)
      by_kind (Some StrEntry) is = at_entry StrEntry is s.state.at_entry refl (λ there. variable_kept reached name StrEntry not is there)
          (λ same. ap (λ (o : Option EntryState). value_by (Some StrEntry) name s.c.globals o) same)
      by_kind (Some Field) is = at_entry Field is s.state.at_entry refl (λ there. field_kept reached name Field is there)
          (λ same. ap (λ (o : Option EntryState). value_by (Some Field) name s.c.globals o) same)
      by_kind _ is = refl
