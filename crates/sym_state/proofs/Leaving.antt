-- What leaves the bindings of a state as they are.
use Rattle.std.proofs.Common.{◌≤◌, ◌+◌, ℕ, List, [], ◌++◌, refl, sym, ap, ◌∙◌, arith, append_assoc}
use Rattle.std.proofs.lemmas.List.{append-nil}
use Rattle.lin_facts.specs.declared.row.Row.{Row}
use Rattle.sym_state.specs.State.{State}
use Rattle.sym_state.specs.declared.symbol.Fact.{Fact}
use Rattle.sym_state.specs.declared.symbol.Sym.{Sym}
use Rattle.sym_state.specs.Frames.{LeavesVariables}

-- the stack alone changes
pub moved : (state : State) (stack : List Sym) → LeavesVariables state (record state { stack = stack })
moved state stack = record {
  extends = record {
    whole = refl;
    at_entry = refl;
    fields = refl;
    next = omega arith;
    few = omega arith;
    facts = ([], sym (append-nil state.facts));
    rows = ([], sym (append-nil state.rows));
  };
  vars = refl;
}

-- facts, rows and symbols are added too
pub added : (state : State) (stack : List Sym) (n : ℕ) (facts : List Fact) (rows : List Row) → state.next ≤ n → n ≤ state.next + 1
    → LeavesVariables state (record state { stack = stack; facts = state.facts ++ facts; rows = state.rows ++ rows; next = n })
added state stack n facts rows more few = record {
  extends = record { whole = refl; at_entry = refl; fields = refl; next = more; few = few; facts = (facts, refl); rows = (rows, refl) };
  vars = refl;
}

-- the same twice, where the first time no symbol is new
pub left_twice : (first second third : State) → second.next ≤ first.next → LeavesVariables first second → LeavesVariables second third
    → LeavesVariables first third
left_twice first second third old one other = record {
  extends = record {
    whole = other.extends.whole ∙ one.extends.whole;
    at_entry = other.extends.at_entry ∙ one.extends.at_entry;
    fields = other.extends.fields ∙ one.extends.fields;
    next = let low = one.extends.next in let high = other.extends.next in omega (arith, low, high);
    few = let high = other.extends.few in omega (arith, old, high);
    facts = (
      one.extends.facts.0 ++ other.extends.facts.0,
      other.extends.facts.1 ∙ ap (λ (l : List Fact). l ++ other.extends.facts.0) one.extends.facts.1
          ∙ append_assoc first.facts one.extends.facts.0 other.extends.facts.0,
    );
    rows = (
      one.extends.rows.0 ++ other.extends.rows.0,
      other.extends.rows.1 ∙ ap (λ (l : List Row). l ++ other.extends.rows.0) one.extends.rows.1
          ∙ append_assoc first.rows one.extends.rows.0 other.extends.rows.0,
    );
  };
  vars = other.vars ∙ one.vars;
}
