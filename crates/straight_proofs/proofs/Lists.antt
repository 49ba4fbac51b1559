-- The first list of references by its cases.
use Rattle.std.proofs.Common.{◌≡◌, ℕ, zero, suc, Bool, true, false, cond, List, [], ◌∷◌, Option, None, Some, ap, ◌∙◌, refl}
use Rattle.std.specs.Prelude.{is_some}
use Rattle.std.specs.List.{filter}
use Rattle.std.specs.Option.{option_and_then}
use Rattle.lin_facts.specs.declared.row.Row.{Row}
use Rattle.lin_facts.specs.declared.row.Term.{Term}
use Rattle.bst_meaning.specs.declared.condition.Cond.{Cond}
use Rattle.sym_state.specs.declared.proof.Reference.{Reference}
use Rattle.sym_state.specs.State.{State}
use Rattle.straight_proofs.specs.Remainders.{lead}
use Rattle.straight_proofs.specs.Straight.{ended, first_list, left_behind, list_within, references}

-- behind the first reference a list goes on
pub first_found : (behind : Reference → Option (List Reference)) (r : Reference) (more : List Reference) (list : List Reference)
    → behind r ≡ Some list → first_list behind (r ∷ more) ≡ Some (r ∷ list)
first_found behind r more list e = ap (λ (o : Option (List Reference)). elim o as (λ _. Option (List Reference)) [ Some l ↦ Some (r ∷ l) | None ↦ first_list behind more ]) e

-- behind the first reference none goes on
pub first_passed : (behind : Reference → Option (List Reference)) (r : Reference) (more : List Reference)
    → behind r ≡ None → first_list behind (r ∷ more) ≡ first_list behind more
first_passed behind r more e = ap (λ (o : Option (List Reference)). elim o as (λ _. Option (List Reference)) [ Some l ↦ Some (r ∷ l) | None ↦ first_list behind more ]) e

-- the same references may be passed behind a first one
pub under : (behind : Reference → Option (List Reference)) (r : Reference) (more others : List Reference)
    → first_list behind more ≡ first_list behind others → first_list behind (r ∷ more) ≡ first_list behind (r ∷ others)
under behind r more others e = ap (λ (rest : Option (List Reference)). elim (behind r) as (λ _. Option (List Reference)) [ Some l ↦ Some (r ∷ l) | None ↦ rest ]) e

-- the first list is that of the references that are kept, where behind each other none goes on
pub first_kept : (keeps : Reference → Bool) (behind : Reference → Option (List Reference)) → ((r : Reference) → keeps r ≡ false → behind r ≡ None)
    → (all : List Reference) → first_list behind all ≡ first_list behind (filter keeps all)
first_kept keeps behind h [] = refl
first_kept keeps behind h (r ∷ all) =
    elim (keeps r) as (λ (b : Bool). keeps r ≡ b → first_list behind (r ∷ all) ≡ first_list behind (cond b (r ∷ filter keeps all) (filter keeps all))) [
      | true ↦ λ e. under behind r all (filter keeps all) (first_kept keeps behind h all)
      | false ↦ λ e. first_passed behind r all (h r e) ∙ first_kept keeps behind h all
    ] refl

-- where nothing is left nothing goes on
pub none_behind : {X : Type 0} (next : Row → Option X) (left : Option Row) → is_some left ≡ false → option_and_then next left ≡ None
none_behind next None e = refl
none_behind next (Some row) e = absurd (cc)

-- a remainder without a lead
pub at_end : (n : ℕ) (cond : Cond) (state : State) (remainder : Row) → lead remainder ≡ None → list_within n cond state remainder ≡ ended remainder
unfolding list_within
at_end zero cond state remainder e =
    ap (λ (o : Option Term). elim o as (λ _. Option (List Reference)) [ None ↦ ended remainder | Some term ↦ None ]) e
at_end (suc n) cond state remainder e =
    ap (λ (o : Option Term). elim o as (λ _. Option (List Reference)) [
      | None ↦ ended remainder
      | Some term ↦ first_list (λ r. option_and_then (list_within n cond state) (left_behind cond state (Some term) remainder r)) (references state)
    ]) e

-- a lead with no references to come
pub none_left : (cond : Cond) (state : State) (remainder : Row) (term : Term) → lead remainder ≡ Some term → list_within zero cond state remainder ≡ None
unfolding list_within
none_left cond state remainder term e =
    ap (λ (o : Option Term). elim o as (λ _. Option (List Reference)) [ None ↦ ended remainder | Some t ↦ None ]) e

-- a lead with references to come
pub one_more : (n : ℕ) (cond : Cond) (state : State) (remainder : Row) (term : Term) → lead remainder ≡ Some term
    → list_within (suc n) cond state remainder
    ≡ first_list (λ r. option_and_then (list_within n cond state) (left_behind cond state (Some term) remainder r)) (references state)
unfolding list_within
one_more n cond state remainder term e =
    ap (λ (o : Option Term). elim o as (λ _. Option (List Reference)) [
      | None ↦ ended remainder
      | Some t ↦ first_list (λ r. option_and_then (list_within n cond state) (left_behind cond state (Some t) remainder r)) (references state)
    ]) e
