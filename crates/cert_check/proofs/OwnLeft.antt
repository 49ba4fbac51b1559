-- The state that a used unit leaves stands where its own check ends.
use Rattle.std.proofs.Common.{◌≡◌, ℕ, ◌+◌, ◌-◌, ◌≤◌, ◌<◌, Bool, true, false, max, List, [], ◌∷◌, ◌++◌, length, map, reverse, Option, None, Some, refl, sym, ap, subst, ◌∙◌, append_assoc, arith}
use Rattle.std.specs.Prelude.{◌||◌}
use Rattle.std.specs.List.{All, AllByRecursion, flat_map, list_all}
use Rattle.std.specs.Option.{option_map_or}
use Rattle.std.proofs.lemmas.List.Elements.{All-head, All-map, All-tail, All-take, All-weaker}
use Rattle.lin_facts.specs.Rows.{Holds}
use Rattle.lin_facts.specs.declared.row.Row.{Row}
use Rattle.name_table.specs.declared.names.Kind.{Kind}
use Rattle.name_table.specs.declared.names.NameId.{NameId}
use Rattle.bst_meaning.specs.Machine.{visited_entry}
use Rattle.bst_meaning.specs.StyleParts.{kind_of}
use Rattle.bst_meaning.specs.EntryLists.{EntryList}
use Rattle.bst_meaning.specs.declared.value.Value.{Value}
use Rattle.sym_state.specs.State.{State}
use Rattle.sym_state.specs.Changes.{symbol_at}
use Rattle.sym_state.specs.Entailing.{match_of, under}
use Rattle.sym_state.specs.Facts.{FactHolds}
use Rattle.sym_state.specs.Opening.{HasValue, IsOfItsKind}
use Rattle.sym_state.specs.Renaming.{bind_renamed, fact_renamed, row_renamed, sym_renamed, through}
use Rattle.sym_state.specs.Stands.{IsBound, IsVisiting, Stands, values_of}
use Rattle.sym_state.specs.Starting.{own_facts, own_rows, seats, symbols_of, unbound}
use Rattle.sym_state.specs.Symbols.{Agrees, Valuation, numbers}
use Rattle.sym_state.specs.WellMade.{WellMade, is_field, is_variable}
use Rattle.sym_state.specs.declared.symbol.Bind.{Bind}
use Rattle.sym_state.specs.declared.symbol.Fact.{Fact}
use Rattle.sym_state.specs.declared.symbol.Sym.{Sym}
use Rattle.sym_state.proofs.Entailed.{found_value, lines_pass, one_more, values_append}
use Rattle.sym_state.proofs.Frames.{all_reversed, facts_agree, joined, list_agrees, rows_agree}
use Rattle.sym_state.proofs.Making.{found_below, seats_names}
use Rattle.sym_state.proofs.Numbering.{stack_below, vars_below}
use Rattle.sym_state.proofs.Opened.{Seated, gives_each, own_facts_hold, own_rows_hold, seated}
use Rattle.sym_state.proofs.ShownPieces.{shown_parts}
use Rattle.builtin_effects.proofs.Rebinding.{each_once}
use Rattle.cert_check.specs.Uses.{facts_left, is_among, left_state, new_symbols, own_count, post_match, rows_left, with_binds}
use Rattle.cert_check.specs.Walks.{Scope, may_write}
use Rattle.cert_check.proofs.LeftFollowing.{post_follows, written_unbound}
use Rattle.cert_check.proofs.LeftFramed.{seats_all}
use Rattle.cert_check.proofs.Leaving.{entry_bound, facts_bound, fields_bound, rows_bound, stack_bound, whole_bound}
use Rattle.cert_check.proofs.LeftPlaces.{name_below}
use Rattle.cert_check.proofs.OwnEnd.{EndOf, name_valued, own_list, with_own}
use Rattle.cert_check.proofs.OwnFacts.{renamed_facts, renamed_rows}
use Rattle.cert_check.proofs.OwnFrame.{same_visited}
use Rattle.cert_check.proofs.OwnStart.{Used, came_fit, value_in}
use Rattle.cert_check.proofs.Passing.{kept_places}
use Rattle.cert_check.proofs.Safety.{Reaches, Remains, agrees_on, remains_where}
use Rattle.cert_check.proofs.Symbols.{bound_last, by_symbols, not_among}

first_of : (a b : Bool) → a ≡ true → (a || b) ≡ true
first_of true b e = refl
first_of false b e = absurd (cc)

-- renamed symbols have the values through the names
values_renamed : (w : Valuation) (name : ℕ → ℕ) (stack : List Sym) → values_of w (map (sym_renamed name) stack) ≡ values_of (through name w) stack
values_renamed w name [] = refl
values_renamed w name (s ∷ stack) =
    one_more w (sym_renamed name s) (map (sym_renamed name) stack)
    ∙ ap (λ (l : List Value). l ++ w.value (name s.0) ∷ []) (values_renamed w name stack)
    ∙ sym (one_more (through name w) s stack)

module _ (scope : Scope) (list : EntryList) (u : Used scope list) (e : EndOf scope list u) where
  -- the state's symbol for a post's, how many there are with the post's own, and the written variables with their symbols
  abbrev pub left_name : ℕ → ℕ
  left_name = post_match (own_list scope list u e) u.s.state u.pre

  abbrev pub left_first : ℕ
  left_first = u.s.state.next + new_symbols u.unit u.s.state e.post u.kept (own_count e.post u.kept)

  abbrev pub left_binds : List Bind
  left_binds = map (bind_renamed left_name) e.post.vars

  abbrev pub left_written : List Bind
  left_written = seats left_binds left_first u.unit.writes

  abbrev most : ℕ
  most = max u.kept (symbols_of e.post)

  -- each is one of those
  below_first : (x : ℕ) → x < most → left_name x < left_first
  below_first x less =
      let fit = came_fit scope list u in
      let parts = shown_parts scope.cert.cond u.s.state u.pre 0 u.hints u.left fit.shown in
      name_below scope.style u.unit (match_of u.s.state u.pre 0) u.s.state u.pre e.post u.kept x u.s.made parts.few
      (lines_pass (match_of u.s.state u.pre 0) u.s.state u.pre parts.lines) (kept_places scope.style u.unit u.kept u.pre u.posts u.is) less

  post_vars : All (λ (b : Bind). b.sym.0 < most) e.post.vars
  post_vars =
      All-weaker (λ (b : Bind). b.sym.0 < symbols_of e.post) (λ (b : Bind). b.sym.0 < most) (λ b h. omega (arith, h)) e.post.vars
      (vars_below (symbols_of e.post) e.post (omega arith))

  binds_below_first : All (λ (b : Bind). b.sym.0 < left_first) left_binds
  binds_below_first =
      All-map (λ (b : Bind). b.sym.0 < left_first) (bind_renamed left_name) e.post.vars
      (All-weaker (λ (b : Bind). b.sym.0 < most) (λ (b : Bind). left_name b.sym.0 < left_first) (λ b h. below_first b.sym.0 h) e.post.vars post_vars)

  binds_hold : (vars : List Bind) → All (λ (b : Bind). b.sym.0 < most) vars
      → AllByRecursion (IsBound scope.style e.v e.d.globals (visited_entry e.d)) vars
      → AllByRecursion (IsBound scope.style (with_own scope list u e).assignment e.d.globals (visited_entry e.d)) (map (bind_renamed left_name) vars)
  binds_hold [] below all = tt
  binds_hold (b ∷ vars) below all = (
    all.0 ∙ ap Some (sym (name_valued scope list u e b.sym.0 (All-head (λ (c : Bind). c.sym.0 < most) b vars below))),
    binds_hold vars (All-tail (λ (c : Bind). c.sym.0 < most) b vars below) all.1,
  )

  -- each written variable has a value of its kind at the end
  one_has : (name : NameId) (found : Option Kind) → kind_of scope.style name ≡ found → option_map_or (is_variable u.unit.entry) found false ≡ true
      → HasValue scope.style scope.cert.cond e.d.globals (visited_entry e.d) name
  one_has name None is variable = absurd (cc)
  one_has name (Some k) is variable = e.inside.have name k is (first_of (is_variable u.unit.entry k) (is_field u.unit.entry k) variable)

  written_have : (names : List NameId) → All (λ name. option_map_or (is_variable u.unit.entry) (kind_of scope.style name) false ≡ true) names
      → AllByRecursion (HasValue scope.style scope.cert.cond e.d.globals (visited_entry e.d)) names
  written_have [] all = tt
  written_have (name ∷ names) all = (
    one_has name (kind_of scope.style name) refl
        (All-head (λ (name : NameId). option_map_or (is_variable u.unit.entry) (kind_of scope.style name) false ≡ true) name names all),
    written_have names (All-tail (λ (name : NameId). option_map_or (is_variable u.unit.entry) (kind_of scope.style name) false ≡ true) name names all),
  )

  -- the values of all symbols
  pub seat_values : Seated scope.style scope.cert.cond e.d left_first (with_own scope list u e).assignment left_written
  seat_values =
      seated scope.style scope.cert.cond e.d left_first (with_own scope list u e).assignment left_binds u.unit.writes (with_own scope list u e).values binds_below_first
      (binds_hold e.post.vars post_vars e.inside.holds.met.vars) (written_have u.unit.writes e.is.placed.writes)

  abbrev pub left_values : Valuation
  left_values = seat_values.assignment

  -- the state's symbols have the values that they had, and those of the post have the values at the end
  old_agree : Agrees u.s.state.next u.s.v left_values
  old_agree = agrees_on u.s.state.next left_first u.s.v (with_own scope list u e).assignment left_values (omega arith) (with_own scope list u e).agrees seat_values.agrees

  post_agree : Agrees most e.v (through left_name left_values)
  post_agree = record {
    value = λ x less. seat_values.agrees.value (left_name x) (below_first x less) ∙ name_valued scope list u e x less;
    position = old_agree.position ∙ sym e.inside.position;
    count = old_agree.count ∙ sym e.inside.count;
  }

  abbrev left_facts : List Fact
  left_facts = facts_left scope.style scope.cert.cond left_name left_written e.post

  left_facts_hold : AllByRecursion (FactHolds scope.style left_values) (u.s.state.facts ++ left_facts)
  left_facts_hold =
      joined (FactHolds scope.style left_values) u.s.state.facts left_facts
      (facts_agree scope.style u.s.state.next u.s.v left_values u.s.state.facts old_agree u.s.made.facts u.s.stands.satisfied.facts)
      (joined (FactHolds scope.style left_values) (flat_map (λ b. own_facts scope.cert.cond (kind_of scope.style b.name) b) left_written) (map (fact_renamed left_name) e.post.facts)
      (gives_each (FactHolds scope.style left_values) (λ b. own_facts scope.cert.cond (kind_of scope.style b.name) b)
      (λ b. IsOfItsKind scope.cert.cond (kind_of scope.style b.name) b.name (left_values.value b.sym.0)) left_written
      (λ b h. own_facts_hold scope.style scope.cert.cond left_values (kind_of scope.style b.name) b h) seat_values.kinds)
      (renamed_facts scope.style left_values left_name e.post.facts
      (facts_agree scope.style most e.v (through left_name left_values) e.post.facts post_agree e.is.fits.facts e.inside.holds.met.facts)))

  abbrev left_rows : List Row
  left_rows = rows_left scope.style scope.cert.cond left_name left_written e.post

  left_rows_hold : AllByRecursion (Holds (numbers left_values)) (u.s.state.rows ++ left_rows)
  left_rows_hold =
      joined (Holds (numbers left_values)) u.s.state.rows left_rows
      (rows_agree u.s.state.next u.s.v left_values u.s.state.rows old_agree u.s.made.rows u.s.stands.satisfied.rows)
      (joined (Holds (numbers left_values)) (flat_map (λ b. own_rows scope.cert.cond (kind_of scope.style b.name) b) left_written) (map (row_renamed left_name) e.post.rows)
      (gives_each (Holds (numbers left_values)) (λ b. own_rows scope.cert.cond (kind_of scope.style b.name) b)
      (λ b. IsOfItsKind scope.cert.cond (kind_of scope.style b.name) b.name (left_values.value b.sym.0)) left_written
      (λ b h. own_rows_hold scope.cert.cond left_values (kind_of scope.style b.name) b h) seat_values.kinds)
      (renamed_rows left_values left_name e.post.rows
      (rows_agree most e.v (through left_name left_values) e.post.rows post_agree e.is.fits.rows e.inside.holds.met.rows)))

  -- the stack
  left_stack : e.d.stack ≡ values_of left_values (under u.s.state u.pre ++ map (sym_renamed left_name) e.post.stack) ++ u.s.below
  left_stack =
      let lower : List Sym = under u.s.state u.pre in
      let upper : List Sym = map (sym_renamed left_name) e.post.stack in
      let stack : All (λ (s : Sym). s.0 < most) e.post.stack =
      All-weaker (λ (s : Sym). s.0 < symbols_of e.post) (λ (s : Sym). s.0 < most) (λ s h. omega (arith, h)) e.post.stack
      (stack_below (symbols_of e.post) e.post (omega arith)) in
      let above : values_of left_values upper ≡ values_of e.v e.post.stack =
      values_renamed left_values left_name e.post.stack
      ∙ list_agrees most e.v (through left_name left_values) (reverse e.post.stack) post_agree (all_reversed most e.post.stack stack) in
      let old : values_of left_values lower ≡ values_of u.s.v lower =
      list_agrees u.s.state.next u.s.v left_values (reverse lower) old_agree
      (all_reversed u.s.state.next lower (All-take (λ (s : Sym). s.0 < u.s.state.next) (length u.s.state.stack - length u.pre.stack) u.s.state.stack u.s.made.stack)) in
      e.inside.holds.stack
      ∙ ap (λ (l : List Value). l ++ (values_of u.s.v lower ++ u.s.below)) (sym above)
      ∙ ap (λ (l : List Value). values_of left_values upper ++ (l ++ u.s.below)) (sym old)
      ∙ sym (append_assoc (values_of left_values upper) (values_of left_values lower) u.s.below)
      ∙ ap (λ (l : List Value). l ++ u.s.below) (sym (values_append left_values lower upper))

  -- a name that the unit doesn't write has the value of the symbol that it had
  abbrev NameHolds : NameId → Sym → Type 0
  NameHolds name s = value_in scope.style name e.d ≡ Some (left_values.value s.0)

  old_holds : (binds : List Bind) → All (λ (b : Bind). b.sym.0 < u.s.state.next) binds
      → AllByRecursion (IsBound scope.style u.s.v u.s.c.globals (visited_entry u.s.c)) binds → (name : NameId) (s : Sym) → symbol_at name binds ≡ Some s
      → is_among u.unit.writes name ≡ false → NameHolds name s
  old_holds binds below hold name s found not =
      e.inside.names name not
      ∙ found_value scope.style u.s.v u.s.c name binds s hold found
      ∙ ap Some (sym (old_agree.value s.0 (found_below u.s.state.next name binds s below found)))

  fields_hold : AllByRecursion (IsBound scope.style left_values e.d.globals (visited_entry e.d)) u.s.state.fields
  fields_hold =
      by_symbols NameHolds u.s.state.fields (each_once (is_field u.s.state.at_entry) 0 scope.style.names u.s.state.fields u.s.made.binds_fields)
      (λ name s found. old_holds u.s.state.fields u.s.made.fields u.s.stands.fields name s found
      (not_among u.unit.writes u.s.state.fields name s (written_unbound scope.style u.s.state u.unit.entry u.unit.writes u.s.made e.is.placed.writes) found))

  abbrev left_told : State
  left_told = record u.s.state {
    stack = under u.s.state u.pre ++ map (sym_renamed left_name) e.post.stack;
    facts = u.s.state.facts ++ left_facts;
    rows = u.s.state.rows ++ left_rows;
    next = left_first + unbound left_binds u.unit.writes;
  }

  vars_hold : WellMade scope.style (with_binds left_written left_told)
      → AllByRecursion (IsBound scope.style left_values e.d.globals (visited_entry e.d)) (with_binds left_written left_told).vars
  vars_hold made =
      let after : State = with_binds left_written left_told in
      by_symbols NameHolds after.vars (each_once (is_variable after.at_entry) 0 scope.style.names after.vars made.binds_vars)
      (λ name s found. bound_last NameHolds left_written left_told name s seat_values.bound
      (λ here not. old_holds u.s.state.vars u.s.made.vars u.s.stands.vars name s here
      (ap (λ (names : List NameId). is_among names name) (sym (seats_names left_binds left_first u.unit.writes)) ∙ not)) found)

  -- at an entry it is visited still
  visits : (t : Bool) → u.unit.entry ≡ t → u.s.state.at_entry ≡ true → IsVisiting left_values e.d
  visits true entry here =
      let at = e.inside.visiting entry in record {
        entry = at.entry;
        is_visited = at.is_visited;
        visit = at.visit;
        goes_on = at.goes_on;
        before = post_agree.position ∙ at.before;
      }
  visits false entry here =
      let at = u.s.stands.visiting here in
      let stays : Remains false e.d.frames u.s.c e.d = subst (λ (t : Bool). Remains t e.d.frames u.s.c e.d) entry e.inside.remains in
      record {
        entry = at.entry;
        is_visited = same_visited e.d.frames u.s.c e.d stays ∙ at.is_visited;
        visit = at.visit;
        goes_on = e.inside.remains.visit ∙ at.goes_on;
        before = old_agree.position ∙ at.before;
      }

  -- the state that is left stands
  left_stands : WellMade scope.style (with_binds left_written left_told)
      → Stands scope.style scope.cert.cond list left_values (with_binds left_written left_told) e.d u.s.below
  left_stands made =
      let after : State = with_binds left_written left_told in
      let at : after.at_entry ≡ u.s.state.at_entry = entry_bound left_written left_told in
      let none = written_unbound scope.style u.s.state u.unit.entry u.unit.writes u.s.made e.is.placed.writes in
      let same_fields : after.fields ≡ u.s.state.fields =
      fields_bound left_written left_told (seats_all (λ (name : NameId). symbol_at name u.s.state.fields ≡ None) left_binds left_first u.unit.writes none) in
      record {
        satisfied = record {
          values = seat_values.values;
          count = subst (λ (n : ℕ). n ≤ scope.cert.cond.entries) (sym old_agree.count) u.s.stands.satisfied.count;
          position = λ here. subst (λ (n : ℕ). n < left_values.count) (sym old_agree.position)
              (subst (λ (n : ℕ). u.s.v.position < n) (sym old_agree.count) (u.s.stands.satisfied.position (sym at ∙ here)));
          facts = subst (λ (l : List Fact). AllByRecursion (FactHolds scope.style left_values) l) (sym (facts_bound left_written left_told)) left_facts_hold;
          rows = subst (λ (l : List Row). AllByRecursion (Holds (numbers left_values)) l) (sym (rows_bound left_written left_told)) left_rows_hold;
        };
        has_list = record {
          fits = u.s.stands.has_list.fits;
          meets = u.s.stands.has_list.meets;
          preamble = e.inside.has_list.preamble;
          entries = e.inside.has_list.entries;
          count = old_agree.count ∙ u.s.stands.has_list.count;
        };
        visiting = λ here. visits u.unit.entry refl (sym at ∙ here);
        stack = subst (λ (l : List Sym). e.d.stack ≡ values_of left_values l ++ u.s.below) (sym (stack_bound left_written left_told)) left_stack;
        whole = λ all. u.s.stands.whole (sym (whole_bound left_written left_told) ∙ all);
        vars = vars_hold made;
        fields = subst (λ (l : List Bind). AllByRecursion (IsBound scope.style left_values e.d.globals (visited_entry e.d)) l) (sym same_fields) fields_hold;
      }

  -- what stays of a configuration stays while the unit is used
  left_remains : Remains u.s.state.at_entry e.d.frames u.s.c e.d
  left_remains = remains_where u.unit.entry u.s.state.at_entry e.d.frames u.s.c e.d (not_there u.unit.entry refl) e.inside.remains
    where
      not_there : (t : Bool) → u.unit.entry ≡ t → u.s.state.at_entry ≡ false → u.unit.entry ≡ false
      not_there false entry outside = entry
      not_there true entry outside = absurd (no_both u.s.state.at_entry ((came_fit scope list u).entry entry) outside)
        where
          no_both : (t : Bool) → t ≡ true → t ≡ false → ⊥
          no_both true a b = cc
          no_both false a b = cc

-- the state that a unit leaves by the post in which its own check ends is reached
pub left_reached : (scope : Scope) (list : EntryList) (u : Used scope list) (e : EndOf scope list u) → list_all (may_write scope.writes) u.unit.writes ≡ true
    → Reaches scope list e.d.frames u.s (left_state scope.style scope.cert.cond u.unit u.pre u.kept u.s.state e.post) (left_values scope list u e) e.d
unfolding left_state
left_reached scope list u e may =
    let follows = post_follows scope u.unit u.kept u.pre u.posts u.s.state e.post u.hints u.left u.small u.is e.is u.s.made u.came may in
    record {
      follows = follows;
      agrees = old_agree scope list u e;
      remains = left_remains scope list u e;
      formed = e.inside.formed;
      stands = left_stands scope list u e follows.made;
    }
