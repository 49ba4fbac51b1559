-- The topmost symbols so far.
use Rattle.std.proofs.Common.{◌≡◌, reverse, take}
use Rattle.loop_templates.proofs.skeletons.tops_of.Given as goal

abbrev pub invariant-loop-from_top : goal.invariant-loop-from_top
invariant-loop-from_top l = l.tops.items ≡ take l.from_top (reverse l.state.stack)
