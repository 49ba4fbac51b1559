-- The place is behind the facts so far.
use Rattle.std.proofs.Common.{◌≡◌, ◌++◌, drop, take}
use Rattle.loop_templates.specs.Cases.{with_fact}
use Rattle.loop_templates.proofs.in_order.place_for.Given as goal

abbrev pub invariant-loop-at : goal.invariant-loop-at
invariant-loop-at l = with_fact l.fact l.kept ≡ take l.at l.kept ++ with_fact l.fact (drop l.at l.kept)
