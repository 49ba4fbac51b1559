use Rattle.bst_run.proofs.SitePlaces.{site_stands}
use Rattle.bst_run.proofs.laws.sites_in_the_text.Goals as goal

pub returns : goal.returns
returns c = λ style list n stopped read is.
    site_stands c.args.source.now style (c.places_in_the_text.ensures style read) list n stopped is
