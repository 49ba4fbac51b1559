-- A text begins where the one before it ends.
use Rattle.std.proofs.Common.{arith}
use Rattle.bv_base.proofs.Packing.{begins_here}
use Rattle.bv_base.proofs.packed_texts.begin_in.Goals as goal

pub returns : goal.returns
returns c =
    begins_here c.args.at c.in-Some.before _ c.args.marks.now c.end_in.result (omega (arith, c.in-Some.ensures)) c.requires c.end_in.ensures
