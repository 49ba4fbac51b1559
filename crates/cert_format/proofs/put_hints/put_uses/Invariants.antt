use Rattle.std.proofs.Common.{◌≡◌, ◌++◌, map, drop}
use Rattle.cert_format.specs.HintSpelling.{use_text}
use Rattle.cert_format.specs.Spelling.{after_item}
use Rattle.cert_format.proofs.put_hints.put_uses.Given as goal

abbrev pub invariant-loop-one : goal.invariant-loop-one
invariant-loop-one l =
    l.printer ++ after_item (map use_text (drop l.one-index l.uses))
    ≡ l.fn.printer ++ after_item (map use_text l.uses)
