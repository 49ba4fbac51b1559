use Rattle.name_table.proofs.Found.{found_id}
use Rattle.name_table.proofs.names.Names.find.Goals as goal

pub returns-in-Some-clause-found : goal.returns-in-Some-clause-found
returns-in-Some-clause-found c =
    found_id c.args.name.now c.self.inside.table.entries _ _ _ c.get_index_of.ensures.index c.self.view_is c.in-Some.is

pub returns-in-None-clause-found : goal.returns-in-None-clause-found
returns-in-None-clause-found c =
    found_id c.args.name.now c.self.inside.table.entries _ _ _ c.get_index_of.ensures.index c.self.view_is c.in-None.is
