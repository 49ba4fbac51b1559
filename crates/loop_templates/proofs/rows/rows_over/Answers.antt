-- The rows are gathered over the state that starts, by searches in the states.
use Rattle.std.proofs.Common.{◌≡◌, IfOk, List, ap, map, subst, sym, ◌∙◌}
use Rattle.std.specs.List.{All}
use Rattle.sym_state.specs.State.{State}
use Rattle.straight_proofs.specs.Asked.{Asked}
use Rattle.loop_templates.specs.Rows.{gathered}
use Rattle.loop_templates.proofs.Sought.{sought}
use Rattle.loop_templates.proofs.rows.rows_over.Goals as goal

pub gathered-requires-clause-searches : goal.gathered-requires-clause-searches
gathered-requires-clause-searches c =
    subst (λ (them : List Asked). All (λ search. search.cond ≡ c.args.cond.now) them) (sym c.as_mut_slice-searches.ensures.value) c.in_ok-all.ensures.cond

pub returns-clause-rows : goal.returns-clause-rows
returns-clause-rows c =
    subst (λ (start : State). IfOk c.gathered.result (λ rows. rows.items
    ≡ gathered c.args.cond.now start c.args.piece.now c.args.sums.now (map (λ state. state.now) c.args.states.now)))
    c.in_ok-start.ensures.started
    (subst (λ (those : List State). IfOk c.gathered.result (λ rows. rows.items
    ≡ gathered c.args.cond.now c.in_ok-start.start c.args.piece.now c.args.sums.now those))
    (ap sought c.as_mut_slice-searches.ensures.value ∙ c.in_ok-all.ensures.states)
    c.gathered.ensures.rows)
