use Rattle.std.proofs.Common.{◌∙◌, ap}
use Rattle.straight_proofs.specs.Remembered.{remembered}
use Rattle.straight_proofs.proofs.Remembering.{found}
use Rattle.straight_proofs.proofs.remembered.Remembered.find.Goals as goal

pub returns : goal.returns
returns g c = c.get.ensures.value ∙ found c.args.key.now c.self.inside.table.entries ∙ ap (remembered c.args.key.now) c.self.view_is
