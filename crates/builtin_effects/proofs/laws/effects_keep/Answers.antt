-- By the lemma on each built-in function.
use Rattle.builtin_effects.proofs.Keeping.{effects_keep}
use Rattle.builtin_effects.proofs.laws.effects_keep.Goals as goal

pub returns : goal.returns
returns c = λ style admits state op hints after limits made is. effects_keep style admits state op hints after limits made is
