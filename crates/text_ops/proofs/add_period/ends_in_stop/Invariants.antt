use Rattle.std.proofs.Common.{◌≡◌, length}
use Rattle.text_ops.specs.AddPeriod.{last_other}
use Rattle.text_ops.proofs.add_period.ends_in_stop.Given as goal

-- what has been passed is closing braces
abbrev pub invariant-loop-text : goal.invariant-loop-text
invariant-loop-text l = last_other l.text ≡ last_other l.fn.s

abbrev pub decreases-loop-text : goal.decreases-loop-text
decreases-loop-text l = length l.text
