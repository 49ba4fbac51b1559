use Rattle.std.proofs.Common.{◌∙◌, Some, cond, ap}
use Rattle.std.specs.Cmp.Lexicographic.{pointwise}
use Rattle.std.specs.Ordering.{int_eq}
use Rattle.straight_proofs.specs.Remembered.{remembered}
use Rattle.straight_proofs.proofs.Remembering.{found_with, pairs}
use Rattle.straight_proofs.proofs.remembered.Remembered.add.Goals as goal

pub returns-clause-added : goal.returns-clause-added
returns-clause-added g c = λ other.
    ap (λ es. remembered other (pairs es)) c.in-Ok.ensures.entries
    ∙ found_with other c.args.key c.args.value c.self.inside.table.entries
    ∙ ap (λ ps. cond (pointwise int_eq other c.args.key.items) (Some c.args.value) (remembered other ps)) c.self.view_is
