-- Tokens stand in order within the name, and parts from token to token.
use Rattle.name_split.proofs.Within.{parts_in}
use Rattle.name_split.proofs.laws.parts_within.Goals as goal

pub returns : goal.returns
returns c = parts_in c.args.name.now
