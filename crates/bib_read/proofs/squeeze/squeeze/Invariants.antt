use Rattle.std.proofs.Common.{◌≡◌, ◌++◌, drop}
use Rattle.bib_read.specs.Squeeze.{squeezed}
use Rattle.bib_read.proofs.squeeze.squeeze.Given as goal

abbrev pub invariant-loop-b : goal.invariant-loop-b
invariant-loop-b l = l.found.items ++ squeezed l.begun (drop l.b-index l.rest) ≡ l.fn.found.items ++ squeezed l.fn.begun l.text
