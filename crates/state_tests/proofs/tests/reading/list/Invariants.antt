-- what holds of each item holds of those so far
use Rattle.std.specs.List.{All}
use Rattle.state_tests.proofs.tests.reading.list.Given as goal

abbrev pub invariant-loop-text : goal.invariant-loop-text
invariant-loop-text g l = All g.T.Item.holds l.items
