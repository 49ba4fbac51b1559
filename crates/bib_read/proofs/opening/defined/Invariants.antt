use Rattle.std.proofs.Common.{◌≡◌, [], drop}
use Rattle.bib_read.specs.Names.{all_defined}
use Rattle.bib_read.proofs.opening.defined.Given as goal

abbrev pub invariant-loop-one : goal.invariant-loop-one
invariant-loop-one l = all_defined (drop l.one-index l.list) l.macros ≡ all_defined l.list []
