use Rattle.std.proofs.Common.{◌≡◌, ◌++◌, drop}
use Rattle.cert_format.specs.PieceSpelling.{hex_digits}
use Rattle.cert_format.proofs.printer.push_hex.Given as goal

abbrev pub invariant-loop-b : goal.invariant-loop-b
invariant-loop-b l = l.text.items ++ hex_digits (drop l.b-index l.bytes) ≡ l.fn.text.items ++ hex_digits l.bytes
