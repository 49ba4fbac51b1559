use Rattle.std.proofs.Common.{◌≡◌, [], length}
use Rattle.aux_read.specs.Items.{stretches}
use Rattle.aux_read.specs.Lines.{add_names}
use Rattle.aux_read.proofs.lines.file_names.Given as goal

abbrev pub invariant-loop-stretch : goal.invariant-loop-stretch
invariant-loop-stretch l = add_names l.place l.stretches l.names ≡ add_names l.place (stretches l.fn.inside) []

abbrev pub decreases-loop-stretch : goal.decreases-loop-stretch
decreases-loop-stretch l = length l.stretches
