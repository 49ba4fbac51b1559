-- There is a part less each time.
use Rattle.std.proofs.Common.{length}
use Rattle.loop_templates.proofs.rows.+same_parts.Given as goal

abbrev pub decreases-same_parts : goal.decreases-same_parts
decreases-same_parts l = length l.a.now
