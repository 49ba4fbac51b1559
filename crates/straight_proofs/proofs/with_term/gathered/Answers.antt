-- The rows of the state, and then those that references say.
use Rattle.std.proofs.Common.{◌∙◌, subst, sym}
use Rattle.std.specs.List.{All}
use Rattle.lin_facts.specs.Rows.{IsSmall}
use Rattle.straight_proofs.proofs.Gathered.{all_with}
use Rattle.straight_proofs.proofs.Numbered.{reach_small}
use Rattle.straight_proofs.proofs.with_term.gathered.Goals as goal

pub push_with-requires : goal.push_with-requires
push_with-requires c = record {
  small = reach_small c.args.known.now.state.now c.as_slice.result.now c.requires.state.rows (c.as_slice.ensures.value ∙ c.requires.rows);
}

pub returns : goal.returns
returns c =
    all_with c.args.known.now.cond.now c.args.known.now.state.now c.args.above c.args.term _ _ _ _ _ c.new-rows.ensures.items
    (c.as_slice.ensures.value ∙ c.requires.rows) (c.as_slice-2.ensures.value ∙ c.in_ok-said.ensures.said)
    (reach_small c.args.known.now.state.now c.as_slice.result.now c.requires.state.rows (c.as_slice.ensures.value ∙ c.requires.rows))
    (subst (λ rows. All IsSmall rows) (sym c.as_slice-2.ensures.value) c.in_ok-said.ensures.small) c.in_ok-push_with.ensures c.in_ok-push_with-2.ensures
