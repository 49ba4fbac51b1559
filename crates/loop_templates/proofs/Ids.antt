-- The names of a kind, one after the other.
use Rattle.std.proofs.Common.{◌≡◌, ℕ, ◌+◌, Bool, true, false, cond, ap, sym, ◌∙◌, refl, List, [], ◌∷◌, ◌++◌, drop, Some}
use Rattle.name_table.specs.Names.{kind_at}
use Rattle.name_table.specs.declared.names.Kind.{Kind}
use Rattle.name_table.specs.declared.names.NameId.{NameId}
use Rattle.sym_state.specs.WellMade.{ids_from}
use Rattle.sym_state.proofs.Started.{id_taken, id_passed}

-- a name is added where its kind passes
pub id_more : (test : Kind → Bool) (old new all : List NameId) (i : ℕ) (names : List (List ℕ × Kind)) (k : Kind) (wanted : Bool)
    → kind_at (record { 0 = i }) names ≡ Some k → wanted ≡ test k → new ≡ cond wanted (old ++ record { 0 = i } ∷ []) old
    → old ++ ids_from test i (drop i names) ≡ all → new ++ ids_from test (i + 1) (drop (i + 1) names) ≡ all
id_more test old new all i names k wanted is decides made before =
    elim wanted as (λ (w : Bool). wanted ≡ w → new ++ ids_from test (i + 1) (drop (i + 1) names) ≡ all) [
      | true ↦ λ yes.
          ap (λ (ids : List NameId). ids ++ ids_from test (i + 1) (drop (i + 1) names))
          (made ∙ ap (λ (w : Bool). cond w (old ++ record { 0 = i } ∷ []) old) yes)
          ∙ id_taken test old all i names k is (sym decides ∙ yes) before
      | false ↦ λ no.
          ap (λ (ids : List NameId). ids ++ ids_from test (i + 1) (drop (i + 1) names))
          (made ∙ ap (λ (w : Bool). cond w (old ++ record { 0 = i } ∷ []) old) no)
          ∙ id_passed test old all i names k is (sym decides ∙ no) before
    ] refl
