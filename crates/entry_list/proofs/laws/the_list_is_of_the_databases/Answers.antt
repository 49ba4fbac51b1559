use Rattle.entry_list.proofs.Apart.{whole_apart}
use Rattle.entry_list.proofs.Found.{whole_from}
use Rattle.entry_list.proofs.laws.the_list_is_of_the_databases.Goals as goal

pub returns : goal.returns
returns c = record { from = whole_from; apart = whole_apart }
