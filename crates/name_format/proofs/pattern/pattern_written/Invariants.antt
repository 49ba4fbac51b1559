use Rattle.std.proofs.Common.{◌≡◌, ◌++◌, length}
use Rattle.name_split.specs.Formatted as specs
use Rattle.name_format.proofs.pattern.pattern_written.Given as goal

abbrev pub invariant-loop-rest : goal.invariant-loop-rest
invariant-loop-rest l =
    l.out.items ++ specs.pattern_written l.name l.parts 0 l.rest ≡ specs.pattern_written l.name l.parts 0 l.pattern

abbrev pub decreases-loop-rest : goal.decreases-loop-rest
decreases-loop-rest l = length l.rest
