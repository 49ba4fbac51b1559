-- The rows in reach are within their bounds, and can be named.
use Rattle.std.proofs.Common.{◌∙◌}
use Rattle.straight_proofs.proofs.Numbered.{reach_few, reach_small}
use Rattle.straight_proofs.proofs.lookup.references_to.Goals as goal

pub push_rows_on-requires-clause-few : goal.push_rows_on-requires-clause-few
push_rows_on-requires-clause-few c = reach_few c.args.known.now.state.now c.as_slice.result.now (c.as_slice.ensures.value ∙ c.requires.rows)

pub push_rows_on-requires-clause-small : goal.push_rows_on-requires-clause-small
push_rows_on-requires-clause-small c =
    reach_small c.args.known.now.state.now c.as_slice.result.now c.requires.state.rows (c.as_slice.ensures.value ∙ c.requires.rows)
