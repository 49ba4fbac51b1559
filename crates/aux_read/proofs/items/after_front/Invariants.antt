use Rattle.std.proofs.Common.{◌≡◌, drop}
use Rattle.aux_read.specs.Items.{after_front}
use Rattle.aux_read.proofs.items.after_front.Given as goal

abbrev pub invariant-loop-mark : goal.invariant-loop-mark
invariant-loop-mark l = after_front (drop l.mark-index l.front) l.rest ≡ after_front l.front l.bytes
