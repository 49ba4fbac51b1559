use Rattle.std.proofs.Common.{◌≡◌, ◌+◌, ◌*◌, drop}
use Rattle.std.specs.Option.{option_and_then}
use Rattle.straight_proofs.specs.Asked.{IsReady}
use Rattle.straight_proofs.specs.Straight.{first_list, left_behind, list_within}
use Rattle.straight_proofs.proofs.search.+search.Given as goal

-- behind a reference one fewer may follow
abbrev pub decreases-list_within : goal.decreases-list_within
decreases-list_within l = 5 * l.most + 4

abbrev pub decreases-first_list : goal.decreases-first_list
decreases-first_list l = 5 * l.most + 6

abbrev pub decreases-list_behind : goal.decreases-list_behind
decreases-list_behind l = 5 * l.most + 5

-- the first list is that of the references that are left, and what is remembered are floors
abbrev pub invariant-first_list-loop-reference : goal.invariant-first_list-loop-reference
invariant-first_list-loop-reference l = record {
  first : first_list (λ r. option_and_then (list_within l.most l.known.cond.now l.known.state.now) (left_behind l.known.cond.now l.known.state.now l.leads l.remainder r)) (drop l.reference-index l.references)
      ≡ first_list (λ r. option_and_then (list_within l.most l.known.cond.now l.known.state.now) (left_behind l.known.cond.now l.known.state.now l.leads l.remainder r)) l.references;
  ready : IsReady l.known.cond.now l.known.state.now l.known.rows.items l.learnt;
}
