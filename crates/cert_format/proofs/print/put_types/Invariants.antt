use Rattle.std.proofs.Common.{◌≡◌, ◌++◌, map, drop}
use Rattle.cert_format.specs.Spelling.{type_items, text_of}
use Rattle.cert_format.proofs.print.put_types.Given as goal

abbrev pub invariant-loop-name : goal.invariant-loop-name
invariant-loop-name l =
    l.printer ++ text_of (map (type_items) (drop l.name-index l.types))
    ≡ l.fn.printer ++ text_of (map (type_items) l.types)
