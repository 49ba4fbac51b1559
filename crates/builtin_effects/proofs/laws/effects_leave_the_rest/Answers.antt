-- The law of what stays.
use Rattle.builtin_effects.proofs.Framing.{effect_framed}
use Rattle.builtin_effects.proofs.laws.effects_leave_the_rest.Goals as goal

pub returns : goal.returns
returns c = λ style admits state op hints after made is. effect_framed style admits state op hints after made is
