-- The variables of a list of names, name by name: their symbols and their facts.
use Rattle.std.proofs.Common.{◌≡◌, ℕ, ◌+◌, ◌≤◌, List, ◌++◌, drop, Some, arith}
use Rattle.name_table.specs.declared.names.Kind.{Kind}
use Rattle.name_table.specs.Names.{kind_at}
use Rattle.bst_meaning.specs.Config.{Variable, opening_variables}
use Rattle.sym_state.specs.declared.symbol.Bind.{Bind}
use Rattle.sym_state.specs.declared.symbol.Fact.{Fact}
use Rattle.command_flow.specs.Between.{exact_facts, own_symbols}
use Rattle.bst_meaning.proofs.NameByName.{one_name_more}

-- what there is so far, and what comes of the names that are left, is what comes of all
pub record SoFar (variable : ℕ → Kind → List Variable → List Variable) (names : List (List ℕ × Kind)) (id : ℕ) (left : List (List ℕ × Kind)) (vars : List Bind) (facts : List Fact)
    (next : ℕ) : Type 0 where
  pub vars_are : vars ++ own_symbols next (opening_variables variable id left) ≡ own_symbols 0 (opening_variables variable 0 names)
  pub facts_are : facts ++ exact_facts next (opening_variables variable id left) ≡ exact_facts 0 (opening_variables variable 0 names)
  pub few : next ≤ id

-- after one name more
pub name_more : (variable : ℕ → Kind → List Variable → List Variable) (i : ℕ) (names : List (List ℕ × Kind)) (k : Kind) (vars new_vars : List Bind)
    (facts new_facts : List Fact) (next new_next : ℕ) → kind_at (record { 0 = i }) names ≡ Some k
    → ((later : List Variable) → new_vars ++ own_symbols new_next later ≡ vars ++ own_symbols next (variable i k later))
    → ((later : List Variable) → new_facts ++ exact_facts new_next later ≡ facts ++ exact_facts next (variable i k later)) → new_next ≤ next + 1
    → SoFar variable names i (drop i names) vars facts next → SoFar variable names (i + 1) (drop (i + 1) names) new_vars new_facts new_next
name_more variable i names k vars new_vars facts new_facts next new_next is adds_vars adds_facts few so_far =
    let before : next ≤ i = so_far.few in
    record {
      vars_are = one_name_more variable i names k vars new_vars _ (own_symbols next) (own_symbols new_next) is adds_vars so_far.vars_are;
      facts_are = one_name_more variable i names k facts new_facts _ (exact_facts next) (exact_facts new_next) is adds_facts so_far.facts_are;
      few = omega (arith, before, few);
    }
