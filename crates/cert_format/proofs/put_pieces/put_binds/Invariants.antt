use Rattle.std.proofs.Common.{◌≡◌, ◌++◌, map, drop}
use Rattle.cert_format.specs.PieceSpelling.{bind_items}
use Rattle.cert_format.specs.Spelling.{text_of}
use Rattle.cert_format.proofs.put_pieces.put_binds.Given as goal

abbrev pub invariant-loop-bind : goal.invariant-loop-bind
invariant-loop-bind l =
    l.printer ++ text_of (map (bind_items l.word l.names) (drop l.bind-index l.binds))
    ≡ l.fn.printer ++ text_of (map (bind_items l.word l.names) l.binds)
