-- The first list of references, reference by reference, and its list kept with the last reference first.
use Rattle.std.proofs.Common.{◌≡◌, ℕ, suc, ◌+◌, ◌<◌, false, List, [], ◌∷◌, ◌++◌, length, reverse, drop, get_or, Option, None, Some, ap, sym, ◌∙◌, add-one}
use Rattle.std.proofs.Math.Seq.{drop-cons}
use Rattle.std.proofs.lemmas.List.{reverse-append}
use Rattle.std.specs.Option.{option_and_then}
use Rattle.lin_facts.specs.declared.row.Row.{Row}
use Rattle.lin_facts.specs.declared.row.Term.{Term}
use Rattle.bst_meaning.specs.declared.condition.Cond.{Cond}
use Rattle.sym_state.specs.declared.proof.Reference.{Reference}
use Rattle.sym_state.specs.State.{State}
use Rattle.straight_proofs.specs.Lookup.{references_to}
use Rattle.straight_proofs.specs.Remainders.{lead}
use Rattle.straight_proofs.specs.Straight.{first_list, left_behind, list_within}
use Rattle.straight_proofs.proofs.Lists.{first_found, first_kept, first_passed, none_behind, one_more}
use Rattle.straight_proofs.proofs.Looked.{leaves, looks_up}

-- the list behind a lead is the first behind the references to it
pub looked_up : (n : ℕ) (c : Cond) (state : State) (remainder : Row) (t : Term) → lead remainder ≡ Some t
    → list_within (suc n) c state remainder
    ≡ first_list (λ r. option_and_then (list_within n c state) (left_behind c state (Some t) remainder r)) (references_to state remainder t)
looked_up n c state remainder t e =
    let b = λ (r : Reference). option_and_then (list_within n c state) (left_behind c state (Some t) remainder r) in
    let none : (r : Reference) → leaves c state t remainder r ≡ false → b r ≡ None =
    λ r f. none_behind (list_within n c state) (left_behind c state (Some t) remainder r) f in
    one_more n c state remainder t e ∙ looks_up (first_list b) c state t remainder (first_kept (leaves c state t remainder) b none)

-- one item of those that are left
pub next_item : {X : Type 0} (all : List X) (i : ℕ) (d : X) → i < length all → drop i all ≡ get_or all i d ∷ drop (i + 1) all
next_item all i d h = rw (add-one, drop-cons all i d h)

-- one reference more, behind which a list goes on
pub goes_on : (behind : Reference → Option (List Reference)) (all : List Reference) (i : ℕ) (d : Reference) (list new : List Reference)
    → i < length all → first_list behind (drop i all) ≡ first_list behind all → Some (reverse list) ≡ behind (get_or all i d)
    → new ≡ list ++ get_or all i d ∷ [] → Some (reverse new) ≡ first_list behind all
goes_on behind all i d list new h so_far e f =
    let r = get_or all i d in
    ap (λ (l : List Reference). Some (reverse l)) f
    ∙ ap (λ (l : List Reference). Some l) (reverse-append list (r ∷ []))
    ∙ sym (first_found behind r (drop (i + 1) all) (reverse list) (sym e))
    ∙ ap (first_list behind) (sym (next_item all i d h))
    ∙ so_far

-- one reference less, behind which none goes on
pub goes_past : (behind : Reference → Option (List Reference)) (all : List Reference) (i : ℕ) (d : Reference)
    → i < length all → first_list behind (drop i all) ≡ first_list behind all → None ≡ behind (get_or all i d)
    → first_list behind (drop (i + 1) all) ≡ first_list behind all
goes_past behind all i d h so_far e =
    sym (first_passed behind (get_or all i d) (drop (i + 1) all) (sym e)) ∙ ap (first_list behind) (sym (next_item all i d h)) ∙ so_far
