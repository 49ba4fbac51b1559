-- The test is the relation, and the relation is sound.
use Rattle.std.proofs.Common.{sym, ◌∙◌}
use Rattle.lin_facts.proofs.Decided.{follows_then, then_follows}
use Rattle.lin_facts.proofs.Sound.{sound}
use Rattle.lin_facts.proofs.follows.follows.Goals as goal

pub returns-clause-means : goal.returns-clause-means
returns-clause-means c = (
  (λ h. follows_then _ _ _ (sym c.shows.ensures ∙ h)),
  (λ f. c.shows.ensures ∙ then_follows _ _ _ f),
)

pub returns-clause-sound : goal.returns-clause-sound
returns-clause-sound c = λ h a used. sound a _ _ _ (follows_then _ _ _ (sym c.shows.ensures ∙ h)) used
