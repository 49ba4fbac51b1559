use Rattle.std.proofs.Common.{◌≡◌, length}
use Rattle.cert_format.specs.Conditions.{cond_lines, no_lines}
use Rattle.cert_format.specs.Lines.{lines_of}
use Rattle.cert_format.proofs.read.cond_lines.Given as goal

abbrev pub invariant-loop-line : goal.invariant-loop-line
invariant-loop-line l = cond_lines l.names l.lines l.cond ≡ cond_lines l.names (lines_of l.source) no_lines

abbrev pub decreases-loop-line : goal.decreases-loop-line
decreases-loop-line l = length l.lines
