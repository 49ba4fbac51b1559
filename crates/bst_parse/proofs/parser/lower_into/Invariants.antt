use Rattle.std.proofs.Common.{◌≡◌, take}
use Rattle.bst_parse.specs.Names.{lowered}
use Rattle.bst_parse.proofs.parser.lower_into.Given as goal

abbrev pub invariant-loop-b : goal.invariant-loop-b
invariant-loop-b l = l.lowered.items ≡ lowered (take l.b-index l.name)
