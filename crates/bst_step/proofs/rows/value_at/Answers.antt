-- The value stands so far behind the first one of the place, or the values end before.
use Rattle.std.proofs.Common.{◌∙◌, ◌*◌, arith}
use Rattle.bst_step.proofs.TableSteps.{none_behind, read_behind}
use Rattle.bst_step.proofs.rows.value_at.Goals as goal

pub returns-then-index-len : goal.returns-then-index-len
returns-then-index-len c =
    c.get.ensures
    ∙ read_behind c.args.values.now (c.args.place * c.args.count) c.args.index c.saturating_add-index.result
    (omega (arith, c.saturating_mul.ensures, c.saturating_add-index.ensures, c.if-index-len.true))

pub returns-else-index-len : goal.returns-else-index-len
returns-else-index-len c =
    none_behind c.args.values.now (c.args.place * c.args.count) c.args.index
    (omega (arith, c.saturating_mul.ensures, c.saturating_add-index.ensures, c.if-index-len.false, c.len.ensures))
