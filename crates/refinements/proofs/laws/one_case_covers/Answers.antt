-- By the lemma on each test.
use Rattle.sym_state.proofs.Spots.{spot_of}
use Rattle.refinements.proofs.Found.{test_found}
use Rattle.refinements.proofs.laws.one_case_covers.Goals as goal

pub returns : goal.returns
returns c = λ style admits list v state config below place test op hints cases made stands is given.
    test_found (spot_of style admits list v state config below place made stands) test op hints cases is given
