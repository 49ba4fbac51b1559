use Rattle.std.proofs.Common.{◌≡◌, ◌++◌, map, drop}
use Rattle.cert_format.specs.PieceSpelling.{sym_text}
use Rattle.cert_format.specs.Spelling.{after_item}
use Rattle.cert_format.proofs.put_pieces.put_symbols.Given as goal

abbrev pub invariant-loop-symbol : goal.invariant-loop-symbol
invariant-loop-symbol l =
    l.printer ++ after_item (map sym_text (drop l.symbol-index l.symbols))
    ≡ l.fn.printer ++ after_item (map sym_text l.symbols)
