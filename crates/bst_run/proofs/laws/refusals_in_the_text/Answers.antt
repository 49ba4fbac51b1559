use Rattle.bst_run.proofs.RefusalPlaces.{rule_in_text}
use Rattle.bst_run.proofs.laws.refusals_in_the_text.Goals as goal

pub returns : goal.returns
returns c = λ style cert refusal read is.
    rule_in_text c.args.source.now style refusal.place (c.places_in_the_text.ensures style read) (c.refusals_in_the_style.ensures style cert refusal is)
