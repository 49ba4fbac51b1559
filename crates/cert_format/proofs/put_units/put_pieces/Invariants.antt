use Rattle.std.proofs.Common.{◌≡◌, ◌++◌, drop}
use Rattle.cert_format.specs.UnitSpelling.{all_marked}
use Rattle.cert_format.specs.Spelling.{text_of}
use Rattle.cert_format.proofs.put_units.put_pieces.Given as goal

abbrev pub invariant-loop-piece : goal.invariant-loop-piece
invariant-loop-piece l =
    l.printer ++ text_of (all_marked l.word l.names (drop l.piece-index l.pieces))
    ≡ l.fn.printer ++ text_of (all_marked l.word l.names l.pieces)
