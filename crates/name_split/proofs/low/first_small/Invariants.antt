use Rattle.std.proofs.Common.{◌≡◌, drop}
use Rattle.name_split.specs.Tokens.{first_small}
use Rattle.name_split.proofs.low.first_small.Given as goal

abbrev pub invariant-loop-b : goal.invariant-loop-b
invariant-loop-b l = first_small (drop l.b-index l.bytes) ≡ first_small l.bytes
