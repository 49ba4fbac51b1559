-- Where the pieces hold and each variable and field has a value of its kind, the state that starts from them stands.
use Rattle.std.proofs.Common.{◌≡◌, ℕ, suc, ◌≤◌, ◌<◌, Bool, true, false, cond, ap, sym, ◌∙◌, subst, refl, List, [], ◌∷◌, ◌++◌, arith, Option, Some, None, nat_eq, reverse}
use Rattle.std.specs.Prelude.{pos}
use Rattle.std.specs.List.{All, AllByRecursion, filter, flat_map}
use Rattle.std.proofs.lemmas.List.Elements.{All-weaker}
use Rattle.lin_facts.specs.Rows.{Holds}
use Rattle.lin_facts.specs.declared.row.Term.TheVariants.{Length as LengthOf, Names as NamesOf}
use Rattle.name_table.specs.declared.names.Kind.{Kind}
use Rattle.name_table.specs.declared.names.Kind.TheVariants.{Field, IntEntry, StrEntry, IntGlobal, StrGlobal}
use Rattle.name_table.specs.declared.names.NameId.{NameId}
use Rattle.name_table.specs.declared.style.Style.{Style}
use Rattle.bst_meaning.specs.Config.{Config}
use Rattle.bst_meaning.specs.Machine.{visited_entry}
use Rattle.bst_meaning.specs.StyleParts.{kind_of}
use Rattle.bst_meaning.specs.declared.condition.Cond.{Cond}
use Rattle.bst_meaning.specs.EntryLists.{EntryList}
use Rattle.bst_meaning.specs.declared.value.Value.{Value}
use Rattle.sym_state.specs.declared.symbol.Sym.{Sym}
use Rattle.sym_state.specs.declared.symbol.Bind.{Bind}
use Rattle.sym_state.specs.declared.piece.Piece.{Piece}
use Rattle.sym_state.specs.Changes.{symbol_at}
use Rattle.sym_state.specs.Facts.{FactHolds}
use Rattle.sym_state.specs.Opening.{CanStart, HasValue, IsOfItsKind, StandsOpen}
use Rattle.sym_state.specs.Stands.{IsBound}
use Rattle.sym_state.specs.Starting.{IsNumbered, all_symbols, bound_by, field_kind, has_kind, is_nonblank, most_names, name_facts, name_rows, names_in_play, numbered_on, own_facts, own_rows, seat, seats, started}
use Rattle.sym_state.specs.Symbols.{Agrees, IsValue, Valuation, numbers}
use Rattle.sym_state.specs.WellMade.{is_field, is_variable}
use Rattle.sym_state.proofs.Consequences.{string_of}
use Rattle.sym_state.proofs.Entailed.{found_value}
use Rattle.sym_state.proofs.Frames.{agrees_further, agrees_self, all_reversed, binds_agree, facts_agree, joined, list_agrees, next_agrees, next_is, rows_agree, value_case, with_next}
use Rattle.sym_state.proofs.Making.{bindings_below, facts_below, found_below, rows_below, stacks_below}
use Rattle.sym_state.proofs.Saying.{at_most_holds}

all_valid : (n : ℕ) (x : Value) (v : Valuation) → IsValue x → ((s : ℕ) → IsValue (v.value s)) → (s : ℕ) → IsValue ((with_next n x v).value s)
all_valid n x v valid each s = value_case x v valid each s (nat_eq s n)

-- an assignment that gives each seat the value of its variable or field
pub record Seated (style : Style) (admits : Cond) (c : Config) (n : ℕ) (v : Valuation) (binds : List Bind) : Type 0 where
  pub assignment : Valuation
  pub agrees : Agrees n v assignment
  pub values : (s : ℕ) → IsValue (assignment.value s)
  pub bound : AllByRecursion (IsBound style assignment c.globals (visited_entry c)) binds
  pub kinds : AllByRecursion (λ b. IsOfItsKind admits (kind_of style b.name) b.name (assignment.value b.sym.0)) binds

pub seated : (style : Style) (admits : Cond) (c : Config) (n : ℕ) (v : Valuation) (bound : List Bind) (names : List NameId)
    → ((s : ℕ) → IsValue (v.value s)) → All (λ b. b.sym.0 < n) bound → AllByRecursion (IsBound style v c.globals (visited_entry c)) bound
    → AllByRecursion (HasValue style admits c.globals (visited_entry c)) names → Seated style admits c n v (seats bound n names)
seated style admits c n v bound [] valid below are have = record {
  assignment = v;
  agrees = agrees_self n v;
  values = valid;
  bound = tt;
  kinds = tt;
}
seated style admits c n v bound (name ∷ names) valid below are have =
    elim (symbol_at name bound) as (λ (o : Option Sym). symbol_at name bound ≡ o → Seated style admits c n v (seat o name n (λ m. seats bound m names))) [
      | Some s ↦ λ is.
          let rest = seated style admits c n v bound names valid below are have.1 in
          let w = rest.assignment in
          let value : w.value s.0 ≡ v.value s.0 = rest.agrees.value s.0 (found_below n name bound s below is) in
          let here : Some have.0.value ≡ Some (w.value s.0) = sym have.0.is ∙ found_value style v c name bound s are is ∙ ap (λ (x : Value). Some x) (sym value) in
          let same : have.0.value ≡ w.value s.0 = cc in
          record {
            assignment = w;
            agrees = rest.agrees;
            values = rest.values;
            bound = (have.0.is ∙ here, rest.bound);
            kinds = (subst (λ (x : Value). IsOfItsKind admits (kind_of style name) name x) same have.0.kind, rest.kinds);
          }
      | None ↦ λ is.
          let x : Value = have.0.value in
          let u : Valuation = with_next n x v in
          let before = next_agrees n x v in
          let rest = seated style admits c (suc n) u bound names (all_valid n x v have.0.valid valid)
          (All-weaker (λ b. b.sym.0 < n) (λ b. b.sym.0 < suc n) (λ b h. omega arith) bound below)
          (binds_agree style n v u c bound before below are) have.1 in
          let w = rest.assignment in
          let value : w.value n ≡ x = rest.agrees.value n (omega arith) ∙ next_is n x v in
          record {
            assignment = w;
            agrees = agrees_further n v u w before rest.agrees;
            values = rest.values;
            bound = (have.0.is ∙ ap (λ (y : Value). Some y) (sym value), rest.bound);
            kinds = (subst (λ (y : Value). IsOfItsKind admits (kind_of style name) name y) (sym value) have.0.kind, rest.kinds);
          }
    ] refl

passing : {X : Type 0} (P : X → Type 0) (test : X → Bool) (xs : List X) → AllByRecursion P xs → AllByRecursion P (filter test xs)
passing P test [] all = tt
passing P test (x ∷ xs) all =
    elim (test x) as (λ t. AllByRecursion P (cond t (x ∷ filter test xs) (filter test xs))) [
      | true ↦ (all.0, passing P test xs all.1)
      | false ↦ passing P test xs all.1
    ]

-- what each binding gives holds
pub gives_each : {X : Type 0} (P : X → Type 0) (given : Bind → List X) (Q : Bind → Type 0) (binds : List Bind) → ((b : Bind) → Q b → AllByRecursion P (given b))
    → AllByRecursion Q binds → AllByRecursion P (flat_map given binds)
gives_each P given Q [] gives all = tt
gives_each P given Q (b ∷ binds) gives all = joined P (given b) (flat_map given binds) (gives b all.0) (gives_each P given Q binds gives all.1)

-- a value of its kind keeps the facts and rows that its variable or field gives
pub own_facts_hold : (style : Style) (admits : Cond) (v : Valuation) (kind : Option Kind) (b : Bind) → IsOfItsKind admits kind b.name (v.value b.sym.0)
    → AllByRecursion (FactHolds style v) (own_facts admits kind b)
own_facts_hold style admits v (Some IntEntry) b h = (h, tt)
own_facts_hold style admits v (Some IntGlobal) b h = (h, tt)
own_facts_hold style admits v (Some StrEntry) b h = (h.0, tt)
own_facts_hold style admits v (Some StrGlobal) b h = (h.0, tt)
own_facts_hold style admits v (Some Field) b h =
    joined (FactHolds style v) (field_kind (is_nonblank admits b.name) b.sym) (name_facts (most_names b.name admits.names) b.sym)
    (of_kind (is_nonblank admits b.name) refl) (of_names (most_names b.name admits.names) refl)
  where
    of_kind : (t : Bool) → is_nonblank admits b.name ≡ t → AllByRecursion (FactHolds style v) (field_kind t b.sym)
    of_kind true e = (string_of (v.value b.sym.0) (h.ink e), (h.ink e, tt))
    of_kind false e = (h.kind, tt)

    of_names : (o : Option ℕ) → most_names b.name admits.names ≡ o → AllByRecursion (FactHolds style v) (name_facts o b.sym)
    of_names (Some most) e = ((h.names most e).0, tt)
    of_names None e = tt
own_facts_hold style admits v _ b h = tt

pub own_rows_hold : (admits : Cond) (v : Valuation) (kind : Option Kind) (b : Bind) → IsOfItsKind admits kind b.name (v.value b.sym.0)
    → AllByRecursion (Holds (numbers v)) (own_rows admits kind b)
own_rows_hold admits v (Some StrEntry) b h = (at_most_holds (numbers v) (LengthOf b.sym.0) (pos 250) h.1, tt)
own_rows_hold admits v (Some StrGlobal) b h = (at_most_holds (numbers v) (LengthOf b.sym.0) (pos 20000) h.1, tt)
own_rows_hold admits v (Some Field) b h =
    (at_most_holds (numbers v) (LengthOf b.sym.0) (pos admits.length) h.length, of_names (most_names b.name admits.names) refl)
  where
    of_names : (o : Option ℕ) → most_names b.name admits.names ≡ o → AllByRecursion (Holds (numbers v)) (name_rows o b.sym)
    of_names (Some most) e = (at_most_holds (numbers v) (NamesOf b.sym.0) (pos most) (h.names most e).1, tt)
    of_names None e = tt
own_rows_hold admits v _ b h = tt

pub opened : (style : Style) (admits : Cond) (list : EntryList) (v : Valuation) (pieces : List Piece) (whole at_entry : Bool) (c : Config) (below : List Value)
    → All IsNumbered pieces → CanStart style admits list v pieces whole at_entry c below
    → StandsOpen style admits list v (all_symbols pieces) (started style admits pieces whole at_entry) c below
opened style admits list v pieces whole at_entry c below numbered can =
    let on = numbered_on 0 pieces in
    let names = names_in_play style at_entry in
    let n : ℕ = all_symbols pieces in
    let found = seated style admits c n v (bound_by on) names can.values (bindings_below pieces numbered) can.hold.binds can.have in
    let w = found.assignment in
    let agree = found.agrees in
    let binds : List Bind = seats (bound_by on) n names in
    record {
      assignment = w;
      agrees = agree;
      stands = record {
        satisfied = record {
          values = found.values;
          count = subst (λ (k : ℕ). k ≤ admits.entries) (sym (agree.count ∙ can.has_list.count)) can.has_list.meets.entries;
          position = λ e. subst (λ (k : ℕ). k < w.count) (sym agree.position) (subst (λ (k : ℕ). v.position < k) (sym agree.count) (can.position e));
          facts = joined (FactHolds style w) (flat_map (λ piece. piece.facts) on) (flat_map (λ b. own_facts admits (kind_of style b.name) b) binds)
              (facts_agree style n v w (flat_map (λ piece. piece.facts) on) agree (facts_below pieces numbered) can.hold.facts)
              (gives_each (FactHolds style w) (λ b. own_facts admits (kind_of style b.name) b) (λ b. IsOfItsKind admits (kind_of style b.name) b.name (w.value b.sym.0)) binds
              (λ b h. own_facts_hold style admits w (kind_of style b.name) b h) found.kinds);
          rows = joined (Holds (numbers w)) (flat_map (λ piece. piece.rows) on) (flat_map (λ b. own_rows admits (kind_of style b.name) b) binds)
              (rows_agree n v w (flat_map (λ piece. piece.rows) on) agree (rows_below pieces numbered) can.hold.rows)
              (gives_each (Holds (numbers w)) (λ b. own_rows admits (kind_of style b.name) b) (λ b. IsOfItsKind admits (kind_of style b.name) b.name (w.value b.sym.0)) binds
              (λ b h. own_rows_hold admits w (kind_of style b.name) b h) found.kinds);
        };
        has_list = record {
          fits = can.has_list.fits;
          meets = can.has_list.meets;
          preamble = can.has_list.preamble;
          entries = can.has_list.entries;
          count = agree.count ∙ can.has_list.count;
        };
        visiting = λ e. let at = can.visiting e in record {
          entry = at.entry;
          is_visited = at.is_visited;
          visit = at.visit;
          goes_on = at.goes_on;
          before = agree.position ∙ at.before;
        };
        stack = can.hold.stack ∙ ap (λ (values : List Value). values ++ below) (sym (list_agrees n v w (reverse (flat_map (λ piece. piece.stack) on)) agree (all_reversed n (flat_map (λ piece. piece.stack) on) (stacks_below pieces numbered))));
        whole = can.bottom;
        vars = passing (IsBound style w c.globals (visited_entry c)) (has_kind style (is_variable at_entry)) binds found.bound;
        fields = passing (IsBound style w c.globals (visited_entry c)) (has_kind style (is_field at_entry)) binds found.bound;
      };
    }
