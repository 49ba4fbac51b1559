-- What holds of each item holds of those so far.
use Rattle.std.specs.List.{All}
use Rattle.straight_tests.proofs.tests.list.Given as goal

abbrev pub invariant-loop-one : goal.invariant-loop-one
invariant-loop-one g l = All g.T.Item.holds l.items.items
