use Rattle.std.proofs.Common.{◌≡◌, [], length}
use Rattle.cert_format.specs.Hints.{add_uses}
use Rattle.cert_format.proofs.hint_lines.uses.Given as goal

abbrev pub invariant-loop-item : goal.invariant-loop-item
invariant-loop-item l =
    record {
      read : add_uses l.line.items l.uses ≡ add_uses l.fn.line.items [];
      end : l.line.end ≡ l.fn.line.end;
    }

abbrev pub decreases-loop-item : goal.decreases-loop-item
decreases-loop-item l = length l.line.items
