-- Each case is that of the state with its own facts.
use Rattle.std.proofs.Common.{arith}
use Rattle.std.proofs.lemmas.Grind.{common_steps}
use Rattle.refinements.proofs.cases.both.Goals as goal

pub returns : goal.returns
returns c = grind (arith, common_steps)
