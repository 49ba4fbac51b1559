-- By the lemma on signs.
use Rattle.refinements.proofs.Signs.{sign_found}
use Rattle.refinements.proofs.laws.one_case_stands.Goals as goal

pub returns : goal.returns
returns c = λ style admits list v state config below s n hints cases stands is given.
    sign_found style admits list v state config below s n hints cases stands is given
