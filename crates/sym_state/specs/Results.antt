-- New symbols of results, with their facts and rows (docs/EFFECTS.md, "Results").
use Rattle.std.specs.Prelude.{◌+◌, ℤ, pos, ◌+ℤ◌, if◌then◌else◌, List, [], ◌∷◌, ◌++◌}
use Rattle.std.specs.Ordering.{int_eq}
use Rattle.lin_facts.specs.Rows.{same_term}
use Rattle.lin_facts.specs.declared.row.Part.{Part}
use Rattle.lin_facts.specs.declared.row.Row.{Row}
use Rattle.lin_facts.specs.declared.row.Term.{Term}
use Rattle.sym_state.specs.State.{State}
use Rattle.sym_state.specs.declared.symbol.Sym.{Sym}
use Rattle.sym_state.specs.declared.symbol.Fact.{Fact}
use Rattle.sym_state.specs.declared.symbol.Kinds.{Kinds}
use Rattle.sym_state.specs.Changes.{kind_facts}

-- the next symbol of a state
abbrev pub next_of : State → Sym
next_of state = record { 0 = state.next }

-- a value is only moved: a symbol that the state has is put on top
abbrev pub with_top : Sym → State → State
with_top s state = record state { stack = state.stack ++ s ∷ [] }

-- a state with a new symbol, the fact of its kind, further facts and rows
abbrev pub with_symbol : Kinds → List Fact → List Row → State → State
with_symbol kind facts rows state = record state {
  facts = state.facts ++ (kind_facts (next_of state) kind ++ facts);
  rows = state.rows ++ rows;
  next = state.next + 1;
}

-- the same with the new symbol on top
abbrev pub with_result : Kinds → List Fact → List Row → State → State
with_result kind facts rows state = with_top (next_of state) (with_symbol kind facts rows state)

-- a term with a number before it
abbrev pub part : ℤ → Term → Part
part coefficient term = record { coefficient = coefficient; term = term }

-- a part before others: equal terms are added up, and one that comes to zero is left out
abbrev pub kept_part : ℤ → Term → List Part → List Part
kept_part coefficient term parts = if int_eq coefficient (pos 0) then parts else part coefficient term ∷ parts

-- a part among others, added to the first of its term
abbrev pub and_part : ℤ → Term → List Part → List Part
and_part coefficient term [] = kept_part coefficient term []
and_part coefficient term (first ∷ parts) =
    if same_term first.term term then kept_part (coefficient +ℤ first.coefficient) term parts
    else first ∷ and_part coefficient term parts

-- a constant and the sum of terms, at least 0
abbrev pub row : ℤ → List Part → Row
row constant parts = record { constant = constant; parts = parts }

-- the sum of a number and two terms with their coefficients
abbrev pub sum_of_two : ℤ → ℤ → Term → ℤ → Term → Row
sum_of_two constant m s n t = row constant (and_part n t (kept_part m s []))

-- the same with a third term
abbrev pub sum_of_three : ℤ → ℤ → Term → ℤ → Term → ℤ → Term → Row
sum_of_three constant l r m s n t = row constant (and_part n t (and_part m s (kept_part l r [])))
