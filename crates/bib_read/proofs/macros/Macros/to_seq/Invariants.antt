use Rattle.std.proofs.Common.{◌≡◌, take}
use Rattle.bib_read.proofs.macros.Macros.to_seq.Given as goal

abbrev pub invariant-loop-i : goal.invariant-loop-i
invariant-loop-i l = l.list ≡ take l.i l.self
