use Rattle.std.proofs.Common.{◌≡◌, ◌++◌, map, drop}
use Rattle.cert_format.specs.HintSpelling.{hint_items}
use Rattle.cert_format.specs.Spelling.{text_of}
use Rattle.cert_format.proofs.put_hints.put_each.Given as goal

abbrev pub invariant-loop-hint : goal.invariant-loop-hint
invariant-loop-hint l =
    l.printer ++ text_of (map hint_items (drop l.hint-index l.hints))
    ≡ l.fn.printer ++ text_of (map hint_items l.hints)
