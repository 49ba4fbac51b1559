-- Variables, as the machine's definition has them.
use Rattle.std.specs.Prelude.{◌≡◌, ℕ, ◌≤◌, List, [], ◌∷◌, length, map, Option}
use Rattle.name_table.specs.declared.names.NameId.{NameId}
use Rattle.bst_meaning.specs.Config as config
use Rattle.bst_step.specs.declared.held.Held.{Held}
use Rattle.bst_step.specs.declared.variables.Variable.{Variable}
use Rattle.bst_step.specs.ById.{replaced_by_id, seen_by_id}
use Rattle.bst_step.specs.Held.{end_of, value_in}
use Rattle.bst_step.specs.Places.{StandAt}

-- a variable with its value, whose bytes may stand in a pool
abbrev pub variable_in : List ℕ → Variable → config.Variable
variable_in pool v = record { name = v.name; value = value_in pool v.value }

-- the names of variables
abbrev pub names_in : List Variable → List NameId
names_in variables = map (λ v. v.name) variables

-- what variables hold
abbrev pub values_in : List Variable → List Held
values_in variables = map (λ v. v.value) variables

-- the variables of these names, which hold the first of these values
abbrev pub named : List NameId → List Held → List Variable
named [] values = []
named (name ∷ names) [] = []
named (name ∷ names) (value ∷ values) = record { name = name; value = value } ∷ named names values

-- as many values as names, each of which stands at the place that a table has for its id
pub record AreNamed (places : List ℕ) (names : List NameId) (values : List Held) : Type 0 where
  pub stand : StandAt places names
  pub many : length values ≡ length names

-- what the variable with this id holds
abbrev pub held_at : ℕ → List Variable → Option Held
held_at id variables = seen_by_id (λ (v : Variable). v.name) (λ (v : Variable). v.value) id variables

-- variables of which one holds another value
abbrev pub with_held : Variable → List Variable → List Variable
with_held new variables = replaced_by_id (λ (v : Variable). v.name) new variables

-- the bytes of what variables hold end there at the latest
abbrev pub VariablesWithin : ℕ → List Variable → Type 0
VariablesWithin end [] = Unit {0}
VariablesWithin end (variable ∷ variables) = (end_of variable.value ≤ end) × VariablesWithin end variables
