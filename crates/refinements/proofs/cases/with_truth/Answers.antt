use Rattle.std.proofs.Common.{ap, ◌∙◌}
use Rattle.std.proofs.lemmas.List.Elements.{All-push, All-same}
use Rattle.sym_state.specs.WellMade.{HasShortText, IsBounded}
use Rattle.refinements.proofs.cases.with_truth.Goals as goal

-- the two facts that are added have no text, and no row is added
pub returns-clause-bounds : goal.returns-clause-bounds
returns-clause-bounds c bounds = record {
  facts = All-same HasShortText _ _
      (ap (λ s. s.facts) c.in_ok-push.ensures.ok ∙ ap (λ s. s.facts) c.in_ok-add_fact.ensures.ok)
      (All-push HasShortText _ _
      (All-same HasShortText _ _ (ap (λ s. s.facts) c.in_ok-sym.ensures.ok) (All-push HasShortText _ _ bounds.facts tt)) tt);
  rows = All-same IsBounded _ _
      (ap (λ s. s.rows) c.in_ok-push.ensures.ok ∙ ap (λ s. s.rows) c.in_ok-add_fact.ensures.ok ∙ ap (λ s. s.rows) c.in_ok-sym.ensures.ok) bounds.rows;
}
