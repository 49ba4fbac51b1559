use Rattle.std.proofs.Common.{◌≡◌, length}
use Rattle.cert_format.specs.Certs.{cert_lines, no_cert}
use Rattle.cert_format.specs.Lines.{lines_of}
use Rattle.cert_format.proofs.read.styled_lines.Given as goal

abbrev pub invariant-loop-line : goal.invariant-loop-line
invariant-loop-line l = cert_lines l.style l.lines l.cert ≡ cert_lines l.style (lines_of l.source) no_cert

abbrev pub decreases-loop-line : goal.decreases-loop-line
decreases-loop-line l = length l.lines
