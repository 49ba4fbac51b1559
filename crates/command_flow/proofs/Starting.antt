-- The states of commands stand where what is known between commands holds: that of the global variables, and that of a visit.
use Rattle.std.proofs.Common.{◌≡◌, ℕ, ◌+◌, ◌-◌, ◌<◌, ◌≤◌, Bool, true, false, cond, List, [], ◌∷◌, ◌++◌, length, map, Option, None, Some, refl, sym, ap, subst, ◌∙◌, arith}
use Rattle.std.specs.Prelude.{nat_lt}
use Rattle.std.specs.List.{AllByRecursion}
use Rattle.std.proofs.lemmas.Bool.Decides.{nat_tests}
use Rattle.std.proofs.lemmas.List.Elements.{All-cons, All-nil}
use Rattle.lin_facts.specs.Rows.{Holds}
use Rattle.name_table.specs.declared.names.Kind.{Kind}
use Rattle.name_table.specs.declared.style.Style.{Style}
use Rattle.bst_meaning.specs.Condition.{Meets}
use Rattle.bst_meaning.specs.Config.{Config, EntryState, Variable, Visit}
use Rattle.bst_meaning.specs.Entries.{Fits}
use Rattle.bst_meaning.specs.Invariant.{IsWellFormed}
use Rattle.bst_meaning.specs.Machine.{visited_entry}
use Rattle.bst_meaning.specs.declared.condition.Cond.{Cond}
use Rattle.bst_meaning.specs.EntryLists.{EntryList}
use Rattle.bst_meaning.specs.declared.value.Value.{Value}
use Rattle.sym_state.specs.Facts.{FactHolds}
use Rattle.sym_state.specs.Opening.{PiecesHold, StandsOpen}
use Rattle.sym_state.specs.Renaming.{bind_renamed, piece_renamed, sym_renamed, through}
use Rattle.sym_state.specs.Stands.{IsBound, IsMet, PieceHolds, Stands, values_of}
use Rattle.sym_state.specs.State.{State}
use Rattle.sym_state.specs.Starting.{IsFit, IsNumbered, all_symbols, raised, started, symbols_of}
use Rattle.sym_state.specs.Symbols.{Agrees, IsValue, Valuation, numbers}
use Rattle.sym_state.specs.WellMade.{HasSmallFields, WellMade, is_variable}
use Rattle.sym_state.specs.declared.piece.Piece.{Piece}
use Rattle.sym_state.specs.declared.symbol.Bind.{Bind}
use Rattle.sym_state.specs.declared.symbol.Sym.{Sym}
use Rattle.sym_state.proofs.Keeping.{started_well_made}
use Rattle.sym_state.proofs.Frames.{binds_agree, facts_agree, joined, rows_agree}
use Rattle.sym_state.proofs.Numbering.{fields_below, vars_below}
use Rattle.sym_state.proofs.Opened.{opened}
use Rattle.cert_check.specs.Certified.{HasNoPos}
use Rattle.cert_check.proofs.OwnFacts.{renamed_facts, renamed_rows}
use Rattle.cert_check.proofs.OwnStart.{one_holds, piece_same}
use Rattle.command_flow.specs.Commands.{is_of_entry, started_visit}
use Rattle.command_flow.proofs.InPlay.{AtEntry, have_values, list_there}
use Rattle.command_flow.proofs.Known.{About, Known, known_still, on_entry, on_globals}

-- a piece from which a state may start, about names of some kinds
pub record Usable (style : Style) (test : Kind → Bool) (piece : Piece) : Type 0 where
  pub numbered : IsNumbered piece
  pub fit : IsFit style piece
  pub about : About style test piece

-- the state of the global variables is well made
pub between_made : (style : Style) (admits : Cond) (piece : Piece) → HasSmallFields admits → Usable style (is_variable false) piece
    → WellMade style (started style admits (piece ∷ []) true false)
between_made style admits piece small usable =
    started_well_made style admits (piece ∷ []) true false small (All-cons IsNumbered piece [] usable.numbered (All-nil IsNumbered))
    (All-cons (IsFit style) piece [] usable.fit (All-nil (IsFit style)))

no_values : (v : Valuation) (stack : List Sym) (values : List Value) → stack ≡ [] → values ≡ [] → values ≡ values_of v stack ++ []
no_values v stack values none empty = empty ∙ ap (λ (l : List Sym). values_of v l ++ []) (sym none)

-- a state stands above nothing, by an assignment with this number as its position
pub record StandsAt (style : Style) (admits : Cond) (list : EntryList) (at : ℕ) (state : State) (c : Config) : Type 0 where
  pub assignment : Valuation
  pub position : assignment.position ≡ at
  pub stands : Stands style admits list assignment state c []

stands_at : (style : Style) (admits : Cond) (list : EntryList) (at symbols : ℕ) (v : Valuation) (state : State) (c : Config) → v.position ≡ at
    → StandsOpen style admits list v symbols state c [] → StandsAt style admits list at state c
stands_at style admits list at symbols v state c position starts =
    record { assignment = starts.assignment; position = starts.agrees.position ∙ position; stands = starts.stands }

-- it stands where the piece is known and no call runs
pub between_stands : (style : Style) (admits : Cond) (list : EntryList) (at : ℕ) (piece : Piece) (c : Config) → Usable style (is_variable false) piece
    → Fits style list → Meets style admits list → IsWellFormed style list c → c.stack ≡ [] → Known style list at piece c.globals None
    → StandsAt style admits list at (started style admits (piece ∷ []) true false) c
between_stands style admits list at piece c usable fits meets formed empty known =
    let holds : PieceHolds style known.v piece c [] = record {
      stack = no_values known.v piece.stack c.stack usable.about.stack empty;
      met = on_globals style known.v piece c.globals None (visited_entry c) usable.about known.met;
    } in
    stands_at style admits list at (all_symbols (piece ∷ [])) known.v (started style admits (piece ∷ []) true false) c known.position
    (opened style admits list known.v (piece ∷ []) true false c [] (All-cons IsNumbered piece [] usable.numbered (All-nil IsNumbered)) (record {
      values = known.values;
      has_list = list_there style admits list known.v c fits meets formed known.count;
      visiting = λ e. absurd (cc);
      position = λ e. absurd (cc);
      hold = subst (λ (p : Piece). PiecesHold style known.v (p ∷ []) c []) (sym (piece_same piece)) (one_holds style known.v piece c [] holds);
      bottom = λ e. refl;
      have = have_values style admits list c false formed (λ e. absurd (cc));
    }))

-- the values of a first piece's symbols, and behind them those of a second's
abbrev merged : ℕ → Valuation → Valuation → Valuation
merged next v w = record { value = λ s. cond (nat_lt s next) (v.value s) (w.value (s - next)); position = v.position; count = v.count }

merged_first : (next : ℕ) (v w : Valuation) → Agrees next v (through (raised 0) (merged next v w))
merged_first next v w = record {
  value = λ s less.
      let here : 0 + s ≡ s = omega arith in
      ap (λ (n : ℕ). cond (nat_lt n next) (v.value n) (w.value (n - next))) here
      ∙ ap (λ (t : Bool). cond t (v.value s) (w.value (s - next))) (within s next less);
  position = refl;
  count = refl;
}
  where
    within : (s next : ℕ) → s < next → nat_lt s next ≡ true
    within s next less = grind (arith, nat_tests)

merged_second : (next n : ℕ) (v w : Valuation) → v.position ≡ w.position → v.count ≡ w.count → Agrees n w (through (raised (0 + next)) (merged next v w))
merged_second next n v w position count = record {
  value = λ s less.
      let back : ((0 + next) + s) - next ≡ s = omega arith in
      ap (λ (t : Bool). cond t (v.value ((0 + next) + s)) (w.value (((0 + next) + s) - next))) (beyond s next) ∙ ap w.value back;
  position = position;
  count = count;
}
  where
    beyond : (s next : ℕ) → nat_lt ((0 + next) + s) next ≡ false
    beyond s next = grind (arith, nat_tests)

merged_values : (next : ℕ) (v w : Valuation) → ((s : ℕ) → IsValue (v.value s)) → ((s : ℕ) → IsValue (w.value s)) → (s : ℕ) → IsValue ((merged next v w).value s)
merged_values next v w first second s = by (nat_lt s next)
  where
    by : (t : Bool) → IsValue (cond t (v.value s) (w.value (s - next)))
    by true = first s
    by false = second (s - next)

-- a piece that is numbered on is met by an assignment that agrees through the numbers
renamed_binds : (style : Style) (name : ℕ → ℕ) (w : Valuation) (globals : List Variable) (entry : Option EntryState) (binds : List Bind)
    → AllByRecursion (IsBound style (through name w) globals entry) binds → AllByRecursion (IsBound style w globals entry) (map (bind_renamed name) binds)
renamed_binds style name w globals entry [] all = tt
renamed_binds style name w globals entry (b ∷ binds) all = (all.0, renamed_binds style name w globals entry binds all.1)

renamed_met : (style : Style) (name : ℕ → ℕ) (v w : Valuation) (piece : Piece) (c : Config) → IsNumbered piece → Agrees (symbols_of piece) v (through name w)
    → IsMet style v piece c.globals (visited_entry c) → IsMet style w (piece_renamed name piece) c.globals (visited_entry c)
renamed_met style name v w piece c numbered agrees met =
    let n : ℕ = symbols_of piece in
    let u : Valuation = through name w in
    let own : n ≤ n = omega arith in
    record {
      vars = renamed_binds style name w c.globals (visited_entry c) piece.vars (binds_agree style n v u c piece.vars agrees (vars_below n piece own) met.vars);
      fields = renamed_binds style name w c.globals (visited_entry c) piece.fields (binds_agree style n v u c piece.fields agrees (fields_below n piece own) met.fields);
      facts = renamed_facts style w name piece.facts (facts_agree style n v u piece.facts agrees numbered.facts met.facts);
      rows = renamed_rows w name piece.rows (rows_agree n v u piece.rows agrees numbered.rows met.rows);
    }

no_symbols : (name : ℕ → ℕ) (stack : List Sym) → stack ≡ [] → map (sym_renamed name) stack ≡ []
no_symbols name stack none = ap (λ (l : List Sym). map (sym_renamed name) l) none

-- two pieces without stacks hold together
both_hold : (style : Style) (v : Valuation) (first second : Piece) (c : Config) → c.stack ≡ [] → first.stack ≡ [] → second.stack ≡ []
    → IsMet style v first c.globals (visited_entry c) → IsMet style v second c.globals (visited_entry c) → PiecesHold style v (first ∷ (second ∷ [])) c []
both_hold style v first second c empty one other met more =
    let binds = joined (IsBound style v c.globals (visited_entry c)) in
    record {
      stack = no_values v (first.stack ++ (second.stack ++ [])) c.stack
          (ap (λ (l : List Sym). l ++ (second.stack ++ [])) one ∙ ap (λ (l : List Sym). l ++ []) other) empty;
      binds = binds (first.vars ++ first.fields) ((second.vars ++ second.fields) ++ []) (binds first.vars first.fields met.vars met.fields)
          (binds (second.vars ++ second.fields) [] (binds second.vars second.fields more.vars more.fields) tt);
      facts = joined (FactHolds style v) first.facts (second.facts ++ []) met.facts (joined (FactHolds style v) second.facts [] more.facts tt);
      rows = joined (Holds (numbers v)) first.rows (second.rows ++ []) met.rows (joined (Holds (numbers v)) second.rows [] more.rows tt);
    }

-- an entry is visited, and so many were before it
pub record Visits (style : Style) (admits : Cond) (list : EntryList) (at : ℕ) (c : Config) : Type 0 where
  pub here : AtEntry style admits c
  pub visit : Visit
  pub goes_on : c.visit ≡ Some visit
  pub before : at ≡ visit.visited
  pub few : at < length list.entries

-- a state of a visit is well made
pub visit_made : (style : Style) (admits : Cond) (visit entry : Piece) → HasSmallFields admits → Usable style (is_variable false) visit
    → Usable style is_of_entry entry → WellMade style (started_visit style admits visit entry)
visit_made style admits visit entry small first second =
    started_well_made style admits (visit ∷ (entry ∷ [])) true true small
    (All-cons IsNumbered visit (entry ∷ []) first.numbered (All-cons IsNumbered entry [] second.numbered (All-nil IsNumbered)))
    (All-cons (IsFit style) visit (entry ∷ []) first.fit (All-cons (IsFit style) entry [] second.fit (All-nil (IsFit style))))

-- it stands where both pieces are known
pub visit_stands : (style : Style) (admits : Cond) (list : EntryList) (at : ℕ) (visit entry : Piece) (c : Config) → Usable style (is_variable false) visit
    → Usable style is_of_entry entry → HasNoPos entry → Fits style list → Meets style admits list → IsWellFormed style list c → c.stack ≡ []
    → (visits : Visits style admits list at c) → Known style list at visit c.globals None → Known style list 0 entry [] (Some visits.here.entry)
    → StandsAt style admits list at (started_visit style admits visit entry) c
visit_stands style admits list at visit entry c first second still fits meets formed empty visits known waiting =
    let moved : Known style list at entry [] (Some visits.here.entry) = known_still style list 0 at entry [] (Some visits.here.entry) still waiting in
    let v : Valuation = known.v in
    let w : Valuation = moved.v in
    let next : ℕ = symbols_of visit in
    let both : Valuation = merged next v w in
    let own : IsMet style v visit c.globals (visited_entry c) = on_globals style v visit c.globals None (visited_entry c) first.about known.met in
    let entrys : IsMet style w entry c.globals (visited_entry c) =
    subst (λ (o : Option EntryState). IsMet style w entry c.globals o) (sym visits.here.visited)
    (on_entry style w entry [] c.globals (Some visits.here.entry) second.about moved.met) in
    stands_at style admits list at (all_symbols (visit ∷ (entry ∷ []))) both (started_visit style admits visit entry) c known.position
    (opened style admits list both (visit ∷ (entry ∷ [])) true true c []
    (All-cons IsNumbered visit (entry ∷ []) first.numbered (All-cons IsNumbered entry [] second.numbered (All-nil IsNumbered))) (record {
      values = merged_values next v w known.values moved.values;
      has_list = list_there style admits list both c fits meets formed known.count;
      visiting = λ e. record {
        entry = visits.here.entry;
        is_visited = visits.here.visited;
        visit = visits.visit;
        goes_on = visits.goes_on;
        before = known.position ∙ visits.before;
      };
      position = λ e.
          let p : v.position ≡ at = known.position in
          let n : v.count ≡ length list.entries = known.count in
          let few : at < length list.entries = visits.few in
          omega (arith, p, n, few);
      hold = both_hold style both (piece_renamed (raised 0) visit) (piece_renamed (raised (0 + next)) entry) c empty
          (no_symbols (raised 0) visit.stack first.about.stack) (no_symbols (raised (0 + next)) entry.stack second.about.stack)
          (renamed_met style (raised 0) v both visit c first.numbered (merged_first next v w) own)
          (renamed_met style (raised (0 + next)) w both entry c second.numbered
          (merged_second next (symbols_of entry) v w (known.position ∙ sym moved.position) (known.count ∙ sym moved.count)) entrys);
      bottom = λ e. refl;
      have = have_values style admits list c true formed (λ e. visits.here);
    }))
