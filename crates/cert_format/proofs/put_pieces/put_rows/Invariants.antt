use Rattle.std.proofs.Common.{◌≡◌, ◌++◌, map, drop}
use Rattle.cert_format.specs.PieceSpelling.{row_items}
use Rattle.cert_format.specs.Spelling.{text_of}
use Rattle.cert_format.proofs.put_pieces.put_rows.Given as goal

abbrev pub invariant-loop-row : goal.invariant-loop-row
invariant-loop-row l =
    l.printer ++ text_of (map row_items (drop l.row-index l.rows))
    ≡ l.fn.printer ++ text_of (map row_items l.rows)
