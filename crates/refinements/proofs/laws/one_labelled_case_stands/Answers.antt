-- By the lemma on signs with their labels.
use Rattle.refinements.proofs.Signs.{labelled_sign_found}
use Rattle.refinements.proofs.laws.one_labelled_case_stands.Goals as goal

pub returns : goal.returns
returns c = λ style admits list v state config below s n hints all stands is given.
    labelled_sign_found style admits list v state config below s n hints all stands is given
