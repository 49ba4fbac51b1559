use Rattle.std.proofs.Common.{◌≡◌, ◌≤◌, ◌+◌, drop}
use Rattle.bib_read.specs.Runs.{inside_length}
use Rattle.bib_read.proofs.runs.inside_length.Given as goal

abbrev pub invariant-loop-i : goal.invariant-loop-i
invariant-loop-i l =
    record {
      within : l.level ≤ l.i;
      length : l.i + inside_length l.mark l.level (drop l.i l.bytes) ≡ inside_length l.mark 0 l.bytes;
    }
