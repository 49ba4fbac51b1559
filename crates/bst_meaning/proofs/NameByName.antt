-- The variables of a list of names, name by name.
use Rattle.std.proofs.Common.{◌≡◌, ℕ, zero, suc, ◌+◌, ◌∙◌, ap, sym, List, [], ◌∷◌, ◌++◌, drop, Some, add-one}
use Rattle.name_table.specs.declared.names.Kind.{Kind}
use Rattle.name_table.specs.Names.{kind_at}
use Rattle.bst_meaning.specs.Config.{Variable, opening_variables}

next_name : (variable : ℕ → Kind → List Variable → List Variable) (i at : ℕ) (names : List (List ℕ × Kind)) (k : Kind)
    → kind_at (record { 0 = i }) names ≡ Some k
    → opening_variables variable at (drop i names) ≡ variable at k (opening_variables variable (at + 1) (drop (suc i) names))
next_name variable i at [] k e = absurd (cc)
next_name variable zero at (name ∷ names) k e =
    let same : name.1 ≡ k = cc in ap (λ kind. variable at kind (opening_variables variable (at + 1) names)) same
next_name variable (suc i) at (name ∷ names) k e = next_name variable i at names k e

-- what is made of the variables so far and of those to come, after one name more
pub one_name_more : {X : Type 0} (variable : ℕ → Kind → List Variable → List Variable) (i : ℕ) (names : List (List ℕ × Kind)) (k : Kind)
    (before after all : List X) (made makes : List Variable → List X) → kind_at (record { 0 = i }) names ≡ Some k
    → ((later : List Variable) → after ++ makes later ≡ before ++ made (variable i k later))
    → before ++ made (opening_variables variable i (drop i names)) ≡ all → after ++ makes (opening_variables variable (i + 1) (drop (i + 1) names)) ≡ all
one_name_more variable i names k before after all made makes is adds so_far =
    adds (opening_variables variable (i + 1) (drop (i + 1) names))
    ∙ ap (λ (n : ℕ). before ++ made (variable i k (opening_variables variable (i + 1) (drop n names)))) (add-one i)
    ∙ ap (λ (later : List Variable). before ++ made later) (sym (next_name variable i i names k is))
    ∙ so_far
