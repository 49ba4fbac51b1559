use Rattle.bst_parse.proofs.PlacesHold.{places_stand}
use Rattle.bst_parse.proofs.laws.places_in_the_text.Goals as goal

pub returns : goal.returns
returns c = λ style e. places_stand c.args.source.now style c.lexemes_in_order.ensures e
