-- A state with what a case adds is well made and stands where the state stands, if what is added fits and holds.
use Rattle.std.proofs.Common.{◌≡◌, ◌<◌, ◌+◌, Bool, true, false, List, [], ◌∷◌, refl, arith}
use Rattle.std.specs.List.{All, AllByRecursion}
use Rattle.lin_facts.specs.Rows.{Holds}
use Rattle.lin_facts.specs.declared.row.Row.{Row}
use Rattle.name_table.specs.declared.style.Style.{Style}
use Rattle.bst_meaning.specs.declared.condition.Cond.{Cond}
use Rattle.bst_meaning.specs.EntryLists.{EntryList}
use Rattle.bst_meaning.specs.declared.value.Value.{Value}
use Rattle.bst_meaning.specs.Config.{Config}
use Rattle.bst_meaning.specs.Operands.{has_32_bits}
use Rattle.sym_state.specs.State.{State}
use Rattle.sym_state.specs.declared.symbol.Fact.{Fact}
use Rattle.sym_state.specs.declared.symbol.Fact.TheVariants.{Int as IntFact}
use Rattle.sym_state.specs.declared.symbol.Kinds.TheVariants.{Int}
use Rattle.sym_state.specs.declared.symbol.Sym.{Sym}
use Rattle.sym_state.specs.Cases.{number_of, with_case, with_truth}
use Rattle.sym_state.specs.Facts.{FactHolds}
use Rattle.sym_state.specs.Results.{next_of}
use Rattle.sym_state.specs.Stands.{Stands}
use Rattle.sym_state.specs.Symbols.{Valuation, numbers}
use Rattle.sym_state.specs.WellMade.{WellMade}
use Rattle.sym_state.proofs.Frames.{joined}
use Rattle.sym_state.proofs.Pushing.{without}
use Rattle.sym_state.proofs.Resulting.{Fits, more_made, one_fits, rest_made, result_made}

pub case_made : (style : Style) (state : State) (facts : List Fact) (rows : List Row) → WellMade style state
    → Fits style state.next facts rows → WellMade style (with_case facts rows state)
case_made style state facts rows made fits = more_made style state state.next facts rows made (omega arith) fits

pub case_stands : (style : Style) (admits : Cond) (list : EntryList) (v : Valuation) (state : State) (c : Config) (below : List Value)
    (facts : List Fact) (rows : List Row) → Stands style admits list v state c below
    → AllByRecursion (FactHolds style v) facts → AllByRecursion (Holds (numbers v)) rows
    → Stands style admits list v (with_case facts rows state) c below
case_stands style admits list v state c below facts rows h fine shown = record {
  satisfied = record {
    values = h.satisfied.values;
    count = h.satisfied.count;
    position = h.satisfied.position;
    facts = joined (FactHolds style v) state.facts facts h.satisfied.facts fine;
    rows = joined (Holds (numbers v)) state.rows rows h.satisfied.rows shown;
  };
  has_list = h.has_list;
  visiting = h.visiting;
  stack = h.stack;
  whole = h.whole;
  vars = h.vars;
  fields = h.fields;
}

-- the answer of a test on top of a state whose operands are taken
answer_small : (answer : Bool) → has_32_bits (number_of answer) ≡ true
answer_small true = refl
answer_small false = refl

pub truth_made : (style : Style) (state : State) (rest : List Sym) (answer : Bool) → WellMade style state → All (λ s. s.0 < state.next) rest
    → WellMade style (with_truth answer (without rest state))
truth_made style state rest answer made old =
    let exact : Fact = IntFact (next_of state) (number_of answer) in
    result_made style (without rest state) Int (exact ∷ []) [] (rest_made style state rest made old)
    (one_fits style (state.next + 1) exact (omega arith) tt (answer_small answer) tt tt)
