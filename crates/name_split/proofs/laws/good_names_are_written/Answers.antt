use Rattle.name_split.proofs.GoodNames.{good_names}
use Rattle.name_split.proofs.laws.good_names_are_written.Goals as goal

pub returns : goal.returns
returns c = good_names
