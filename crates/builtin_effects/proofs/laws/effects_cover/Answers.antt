-- By the lemma on each built-in function.
use Rattle.sym_state.proofs.Spots.{spot_of}
use Rattle.builtin_effects.proofs.EffectsCover.{effect_covers}
use Rattle.builtin_effects.proofs.laws.effects_cover.Goals as goal

pub returns : goal.returns
returns c = λ style admits list v state config below place op hints after made stands given.
    effect_covers (spot_of style admits list v state config below place made stands) op hints after given
