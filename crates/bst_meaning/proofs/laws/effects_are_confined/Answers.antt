use Rattle.bst_meaning.proofs.Confined.{confined_effect}
use Rattle.bst_meaning.proofs.Kept.{kept}
use Rattle.bst_meaning.proofs.laws.effects_are_confined.Goals as goal

pub returns : goal.returns
returns c = record { confined = confined_effect; kept = kept }
