use Rattle.std.proofs.Common.{◌≡◌, ◌++◌, map, drop}
use Rattle.cert_format.specs.Spelling.{names_items, text_of}
use Rattle.cert_format.proofs.print.put_names.Given as goal

abbrev pub invariant-loop-line : goal.invariant-loop-line
invariant-loop-line l =
    l.printer ++ text_of (map (names_items l.names) (drop l.line-index l.lines))
    ≡ l.fn.printer ++ text_of (map (names_items l.names) l.lines)
