use Rattle.std.proofs.Common.{◌≡◌, ◌+◌, ◌≤◌, length}
use Rattle.aux_read.specs.Reading.{aux_of, reading}
use Rattle.aux_read.proofs.read.read_lines.Given as goal

abbrev pub invariant-loop-line : goal.invariant-loop-line
invariant-loop-line l =
    record {
      within : l.place.line + length l.lines ≤ 16777217;
      read : reading l.place l.lines l.aux ≡ aux_of l.fn.source;
    }

abbrev pub decreases-loop-line : goal.decreases-loop-line
decreases-loop-line l = length l.lines
