-- The first list of a goal's one form is that of the goal.
use Rattle.std.proofs.Common.{◌≡◌, List, Option, Vec, Global, IfOk, option_map, reverse, subst}
use Rattle.sym_state.specs.declared.proof.Reference.{Reference}
use Rattle.straight_proofs.proofs.Alike.{same_list}
use Rattle.straight_proofs.proofs.straight.first_list_of.Goals as goal

pub returns-clause-found : goal.returns-clause-found
returns-clause-found c =
    subst (λ (wanted : Option (List Reference)). IfOk c.list_within.result
    (λ result. option_map (λ (list : Vec Reference Global). reverse list.items) result ≡ wanted))
    (same_list 8 c.args.known.now.cond.now c.args.known.now.state.now c.in_ok-remainder.remainder c.args.goal.now c.in_ok-remainder.ensures.alike)
    c.list_within.ensures.found
