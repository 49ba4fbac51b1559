-- The first list among all references, from the row that never holds.
use Rattle.std.proofs.Common.{◌≡◌, List, Option, None, Vec, Global, IfOk, option_map, reverse, ap, ◌∙◌, subst}
use Rattle.std.specs.Option.{option_and_then}
use Rattle.lin_facts.specs.declared.row.Row.{Row}
use Rattle.sym_state.specs.Cases.{absurdity}
use Rattle.sym_state.specs.declared.proof.Reference.{Reference}
use Rattle.straight_proofs.specs.Straight.{first_list, left_behind, list_within}
use Rattle.straight_proofs.proofs.straight.list_among_all.Goals as goal

pub returns-clause-found : goal.returns-clause-found
returns-clause-found c =
    let found : Row → List Reference → Option (List Reference) =
    λ row. first_list (λ r. option_and_then (list_within 7 c.args.known.now.cond.now c.args.known.now.state.now)
    (left_behind c.args.known.now.cond.now c.args.known.now.state.now None row r)) in
    subst (λ (wanted : Option (List Reference)). IfOk c.first_list.result
    (λ result. option_map (λ (list : Vec Reference Global). reverse list.items) result ≡ wanted))
    (ap (λ (row : Row). found row c.as_slice.result.now) c.never-goal.ensures.said
    ∙ ap (found absurdity) (c.as_slice.ensures.value ∙ c.in_ok-all.ensures))
    c.first_list.ensures.found
