use Rattle.std.proofs.Common.{◌≡◌, ◌++◌, drop}
use Rattle.cert_format.specs.PieceSpelling.{part_items}
use Rattle.cert_format.specs.Spelling.{after_item}
use Rattle.cert_format.proofs.put_pieces.put_parts.Given as goal

abbrev pub invariant-loop-part : goal.invariant-loop-part
invariant-loop-part l =
    l.printer ++ after_item (part_items (drop l.part-index l.parts))
    ≡ l.fn.printer ++ after_item (part_items l.parts)
