use Rattle.std.proofs.Common.{◌≡◌, length}
use Rattle.aux_read.specs.Items.{stretches}
use Rattle.aux_read.specs.Lines.{add_citations}
use Rattle.aux_read.proofs.lines.add_citations.Given as goal

abbrev pub invariant-loop-stretch : goal.invariant-loop-stretch
invariant-loop-stretch l =
    add_citations l.place l.stretches l.aux ≡ add_citations l.place (stretches l.fn.inside) l.fn.aux

abbrev pub decreases-loop-stretch : goal.decreases-loop-stretch
decreases-loop-stretch l = length l.stretches
