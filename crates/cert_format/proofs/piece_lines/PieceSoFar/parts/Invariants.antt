use Rattle.std.proofs.Common.{◌≡◌, [], length}
use Rattle.cert_format.specs.Pieces.{parts}
use Rattle.cert_format.proofs.piece_lines.PieceSoFar.parts.Given as goal

abbrev pub invariant-loop-first : goal.invariant-loop-first
invariant-loop-first l =
    record {
      read : parts l.self.has_pos l.self.next l.line.end l.line.items l.parts
          ≡ parts l.self.has_pos l.self.next l.fn.line.end l.fn.line.items [];
      end : l.line.end ≡ l.fn.line.end;
    }

abbrev pub decreases-loop-first : goal.decreases-loop-first
decreases-loop-first l = length l.line.items
