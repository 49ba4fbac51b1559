use Rattle.std.proofs.Common.{◌≡◌, ◌++◌, take, drop}
use Rattle.bib_read.specs.Squeeze.{squeezed}
use Rattle.bib_read.proofs.squeeze.same_front.Given as goal

abbrev pub invariant-loop-i : goal.invariant-loop-i
invariant-loop-i l = squeezed l.fn.begun l.text ≡ take l.i l.text ++ squeezed l.begun (drop l.i l.text)
