use Rattle.std.proofs.Common.{◌≡◌, length}
use Rattle.cert_format.specs.Pieces.{push_symbols}
use Rattle.cert_format.proofs.piece_lines.PieceSoFar.push_symbols.Given as goal

abbrev pub invariant-loop-item : goal.invariant-loop-item
invariant-loop-item l =
    record {
      read : push_symbols l.line.items l.self ≡ push_symbols l.fn.line.items l.fn.self;
      end : l.line.end ≡ l.fn.line.end;
    }

abbrev pub decreases-loop-item : goal.decreases-loop-item
decreases-loop-item l = length l.line.items
