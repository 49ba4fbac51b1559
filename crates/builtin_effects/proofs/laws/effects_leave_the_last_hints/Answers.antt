-- The law of hints that are left.
use Rattle.sym_state.specs.Effects.{rule_of}
use Rattle.sym_state.proofs.Ensured.{hints_left}
use Rattle.builtin_effects.proofs.laws.effects_leave_the_last_hints.Goals as goal

pub returns : goal.returns
returns c = λ style admits state op hints after e. let h = hints_left admits state (rule_of style admits state op) hints after e in (h.taken, h.are)
