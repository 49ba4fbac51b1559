use Rattle.std.proofs.Common.{◌-◌}
use Rattle.text_ops.proofs.WidthBounds.{table_bound}
use Rattle.text_ops.proofs.width.byte_width.Goals as goal

pub returns-in-32-to-126-clause-bound : goal.returns-in-32-to-126-clause-bound
returns-in-32-to-126-clause-bound c = table_bound (c.args.b - 32)
