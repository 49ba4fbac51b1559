-- The variables of a list of names, name by name.
use Rattle.std.proofs.Common.{◌≡◌, ℕ, ◌+◌, List, ◌++◌, drop, Some}
use Rattle.name_table.specs.declared.names.Kind.{Kind}
use Rattle.name_table.specs.Names.{kind_at}
use Rattle.bst_meaning.specs.Config.{Variable, opening_variables}
use Rattle.bst_meaning.proofs.NameByName.{one_name_more}

-- the variables so far and those to come, after one name more
pub opened_more : (variable : ℕ → Kind → List Variable → List Variable) (i : ℕ) (names : List (List ℕ × Kind)) (k : Kind) (before more all : List Variable)
    → kind_at (record { 0 = i }) names ≡ Some k → ((later : List Variable) → more ++ later ≡ before ++ variable i k later)
    → before ++ opening_variables variable i (drop i names) ≡ all → more ++ opening_variables variable (i + 1) (drop (i + 1) names) ≡ all
opened_more variable i names k before more all is adds so_far =
    one_name_more variable i names k before more all (λ later. later) (λ later. later) is adds so_far
