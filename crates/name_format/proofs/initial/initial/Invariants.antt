use Rattle.std.proofs.Common.{◌≡◌, drop}
use Rattle.name_split.specs.Formatted as specs
use Rattle.name_format.proofs.initial.initial.Given as goal

abbrev pub invariant-loop-at : goal.invariant-loop-at
invariant-loop-at l = specs.initial (drop l.at l.token) ≡ specs.initial l.token
