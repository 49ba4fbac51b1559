use Rattle.std.proofs.Common.{◌∙◌}
use Rattle.name_table.proofs.Found.{inserted_last}
use Rattle.name_table.proofs.names.append.Goals as goal

pub returns-clause-appended : goal.returns-clause-appended
returns-clause-appended c =
    c.in-Ok.ensures.entries ∙ inserted_last c.args.name c.args.kind c.args.table.now.entries c.requires
