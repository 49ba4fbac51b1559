-- There is a state less each time.
use Rattle.std.proofs.Common.{length, ◌-◌}
use Rattle.loop_templates.proofs.claims.+least_from.Given as goal

abbrev pub decreases-least_from : goal.decreases-least_from
decreases-least_from l = length l.searches.now - l.k
