-- States that stand after values are taken from the literal stack and put on it.
use Rattle.std.proofs.Common.{◌≡◌, ℕ, ◌<◌, true, nat_eq, List, [], ◌∷◌, ◌++◌, reverse, refl, sym, ap, subst, ◌∙◌}
use Rattle.std.specs.List.{All, AllByRecursion}
use Rattle.std.proofs.lemmas.List.{reverse-append, reverse-reverse}
use Rattle.std.proofs.lemmas.List.Elements.{All-same}
use Rattle.lin_facts.specs.Rows.{Holds}
use Rattle.lin_facts.specs.declared.row.Row.{Row}
use Rattle.name_table.specs.declared.style.Style.{Style}
use Rattle.bst_meaning.specs.declared.condition.Cond.{Cond}
use Rattle.bst_meaning.specs.EntryLists.{EntryList}
use Rattle.bst_meaning.specs.declared.value.Value.{Value}
use Rattle.bst_meaning.specs.Config.{Config, Event, Frame}
use Rattle.sym_state.specs.declared.symbol.Sym.{Sym}
use Rattle.sym_state.specs.declared.symbol.Fact.{Fact}
use Rattle.sym_state.specs.declared.symbol.Kinds.{Kinds}
use Rattle.sym_state.specs.declared.symbol.Kinds.TheVariants.{Int, Str, Missing, Optional, Func, Any}
use Rattle.sym_state.specs.State.{State}
use Rattle.sym_state.specs.Changes.{kind_facts}
use Rattle.sym_state.specs.Facts.{FactHolds, has_kind}
use Rattle.sym_state.specs.Results.{next_of, with_result, with_symbol}
use Rattle.sym_state.specs.Stands.{HasList, IsVisiting, Satisfies, Stands, values_of}
use Rattle.sym_state.specs.Symbols.{Valuation, IsValue, numbers}
use Rattle.sym_state.specs.WellMade.{WellMade}
use Rattle.sym_state.proofs.Frames.{all_reversed, binds_agree, facts_agree, joined, list_agrees, next_agrees, next_is, rows_agree, value_case, value_list, with_next}

-- the symbols on the stack, the top first
pub tops_below : (style : Style) (state : State) (tops : List Sym) → WellMade style state → reverse state.stack ≡ tops
    → All (λ s. s.0 < state.next) tops
tops_below style state tops made e =
    All-same (λ s. s.0 < state.next) tops (reverse state.stack) (sym e) (all_reversed state.next state.stack made.stack)

-- the machine's stack begins with the values of the symbols on top
pub stack_of_tops : (style : Style) (admits : Cond) (list : EntryList) (v : Valuation) (state : State) (c : Config) (below : List Value) (tops : List Sym)
    → Stands style admits list v state c below → reverse state.stack ≡ tops → c.stack ≡ value_list v tops ++ below
stack_of_tops style admits list v state c below tops h e = h.stack ∙ ap (λ (l : List Sym). value_list v l ++ below) e

-- a configuration with another stack, other lines and another log, on which what is read of variables and fields doesn't depend
abbrev pub with_stack : List Value → List Event → List (List ℕ) → Config → Config
with_stack stack events log c = record c { stack = stack; events = events; log = log }

pub list_same : (style : Style) (admits : Cond) (list : EntryList) (v w : Valuation) (stack : List Value) (events : List Event) (log : List (List ℕ)) (c : Config)
    → w.count ≡ v.count → HasList style admits list v c → HasList style admits list w (with_stack stack events log c)
list_same style admits list v w stack events log c e h =
    record { fits = h.fits; meets = h.meets; preamble = h.preamble; entries = h.entries; count = e ∙ h.count }

pub visiting_same : (v w : Valuation) (stack : List Value) (events : List Event) (log : List (List ℕ)) (c : Config)
    → w.position ≡ v.position → IsVisiting v c → IsVisiting w (with_stack stack events log c)
visiting_same v w stack events log c e h =
    record { entry = h.entry; is_visited = h.is_visited; visit = h.visit; goes_on = h.goes_on; before = e ∙ h.before }

-- a state of which operands are taken, over what stays of the machine's stack
abbrev pub without : List Sym → State → State
without rest state = record state { stack = reverse rest }

-- what a state says is satisfied where another state says it
pub satisfies_same : (style : Style) (admits : Cond) (v : Valuation) (s t : State) → t.at_entry ≡ s.at_entry → t.facts ≡ s.facts → t.rows ≡ s.rows
    → Satisfies style admits v s → Satisfies style admits v t
satisfies_same style admits v s t at facts rows h = record {
  values = h.values;
  count = h.count;
  position = λ here. h.position (sym at ∙ here);
  facts = subst (λ (fs : List Fact). AllByRecursion (FactHolds style v) fs) (sym facts) h.facts;
  rows = subst (λ (rs : List Row). AllByRecursion (Holds (numbers v)) rs) (sym rows) h.rows;
}

-- nothing but the stack changes, and symbols of the state lie on it
pub moved : (style : Style) (admits : Cond) (list : EntryList) (v : Valuation) (state : State) (c : Config) (below : List Value)
    (tops : List Sym) (stack : List Sym) (events : List Event) (log : List (List ℕ)) → Stands style admits list v state c below
    → reverse stack ≡ tops
    → Stands style admits list v (record state { stack = stack }) (with_stack (value_list v tops ++ below) events log c) below
moved style admits list v state c below tops stack events log h e = record {
  satisfied = satisfies_same style admits v state (record state { stack = stack }) refl refl refl h.satisfied;
  has_list = list_same style admits list v v (value_list v tops ++ below) events log c refl h.has_list;
  visiting = λ entered. visiting_same v v (value_list v tops ++ below) events log c refl (h.visiting entered);
  stack = ap (λ (l : List Sym). value_list v l ++ below) (sym e);
  whole = h.whole;
  vars = h.vars;
  fields = h.fields;
}

-- other frames
pub stands_framed : (style : Style) (admits : Cond) (list : EntryList) (v : Valuation) (state : State) (c : Config) (below : List Value)
    (frames : List Frame) → Stands style admits list v state c below → Stands style admits list v state (record c { frames = frames }) below
stands_framed style admits list v state c below frames h =
    let l = h.has_list in record {
      satisfied = h.satisfied;
      has_list = record { fits = l.fits; meets = l.meets; preamble = l.preamble; entries = l.entries; count = l.count };
      visiting = λ entered. let i = h.visiting entered in
          record { entry = i.entry; is_visited = i.is_visited; visit = i.visit; goes_on = i.goes_on; before = i.before };
      stack = h.stack;
      whole = h.whole;
      vars = h.vars;
      fields = h.fields;
    }

kind_fact : (style : Style) (kind : Kinds) (s : Sym) (value : Value) (w : Valuation) → w.value s.0 ≡ value → has_kind kind value ≡ true
    → AllByRecursion (FactHolds style w) (kind_facts s kind)
kind_fact style Any s value w e h = tt
kind_fact style Int s value w e h = (ap (has_kind Int) e ∙ h, tt)
kind_fact style Str s value w e h = (ap (has_kind Str) e ∙ h, tt)
kind_fact style Missing s value w e h = (ap (has_kind Missing) e ∙ h, tt)
kind_fact style Optional s value w e h = (ap (has_kind Optional) e ∙ h, tt)
kind_fact style Func s value w e h = (ap (has_kind Func) e ∙ h, tt)

-- a new symbol has a value, and what is said of it holds
pub satisfies_next : (style : Style) (admits : Cond) (v : Valuation) (state : State) (kind : Kinds) (facts : List Fact) (rows : List Row) (value : Value)
    → WellMade style state → Satisfies style admits v state → IsValue value → has_kind kind value ≡ true
    → AllByRecursion (FactHolds style (with_next state.next value v)) facts
    → AllByRecursion (Holds (numbers (with_next state.next value v))) rows
    → Satisfies style admits (with_next state.next value v) (with_symbol kind facts rows state)
satisfies_next style admits v state kind facts rows value made h is of_kind fine shown =
    let w = with_next state.next value v in
    let a = next_agrees state.next value v in record {
      values = λ s. value_case value v is h.values s (nat_eq s state.next);
      count = h.count;
      position = h.position;
      facts = joined (FactHolds style w) state.facts (kind_facts (next_of state) kind ++ facts)
          (facts_agree style state.next v w state.facts a made.facts h.facts)
          (joined (FactHolds style w) (kind_facts (next_of state) kind) facts
          (kind_fact style kind (next_of state) value w (next_is state.next value v) of_kind) fine);
      rows = joined (Holds (numbers w)) state.rows rows (rows_agree state.next v w state.rows a made.rows h.rows) shown;
    }

top_first : (w : Valuation) (rest : List Sym) (s : Sym) (below : List Value)
    → values_of w (reverse rest ++ s ∷ []) ++ below ≡ w.value s.0 ∷ (value_list w rest ++ below)
top_first w rest s below =
    ap (λ (l : List Sym). value_list w l ++ below) (reverse-append (reverse rest) (s ∷ []))
    ∙ ap (λ (l : List Sym). w.value s.0 ∷ (value_list w l ++ below)) (reverse-reverse rest)

-- operands are taken, and a new symbol is put on top
pub pushed : (style : Style) (admits : Cond) (list : EntryList) (v : Valuation) (state : State) (c : Config) (below : List Value)
    (rest : List Sym) (kind : Kinds) (facts : List Fact) (rows : List Row) (value : Value) (events : List Event) (log : List (List ℕ))
    → WellMade style state → Stands style admits list v state c below → All (λ s. s.0 < state.next) rest
    → IsValue value → has_kind kind value ≡ true
    → AllByRecursion (FactHolds style (with_next state.next value v)) facts
    → AllByRecursion (Holds (numbers (with_next state.next value v))) rows
    → Stands style admits list (with_next state.next value v) (with_result kind facts rows (without rest state))
    (with_stack (value ∷ (value_list v rest ++ below)) events log c) below
pushed style admits list v state c below rest kind facts rows value events log made h old is of_kind fine shown =
    let w = with_next state.next value v in
    let a = next_agrees state.next value v in
    let stack = value ∷ (value_list v rest ++ below) in
    let s = satisfies_next style admits v state kind facts rows value made h.satisfied is of_kind fine shown in record {
      satisfied = satisfies_same style admits w (with_symbol kind facts rows state) (with_result kind facts rows (without rest state)) refl refl refl s;
      has_list = list_same style admits list v w stack events log c refl h.has_list;
      visiting = λ entered. visiting_same v w stack events log c refl (h.visiting entered);
      stack = ap (λ (x : Value). x ∷ (value_list v rest ++ below)) (sym (next_is state.next value v))
          ∙ ap (λ (l : List Value). w.value state.next ∷ (l ++ below)) (sym (list_agrees state.next v w rest a old))
          ∙ sym (top_first w rest (next_of state) below);
      whole = h.whole;
      vars = binds_agree style state.next v w c state.vars a made.vars h.vars;
      fields = binds_agree style state.next v w c state.fields a made.fields h.fields;
    }
