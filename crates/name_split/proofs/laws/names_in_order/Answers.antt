-- Separators stand in order, and names between them.
use Rattle.name_split.proofs.Ordering.{names_ordered}
use Rattle.name_split.proofs.laws.names_in_order.Goals as goal

pub returns : goal.returns
returns c = names_ordered c.args.text.now
