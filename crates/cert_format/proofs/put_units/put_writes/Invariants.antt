use Rattle.std.proofs.Common.{◌≡◌, ◌++◌, map, drop}
use Rattle.cert_format.specs.UnitSpelling.{writes_items}
use Rattle.cert_format.specs.Spelling.{text_of}
use Rattle.cert_format.proofs.put_units.put_writes.Given as goal

abbrev pub invariant-loop-id : goal.invariant-loop-id
invariant-loop-id l =
    l.printer ++ text_of (map (writes_items l.names) (drop l.id-index l.writes))
    ≡ l.fn.printer ++ text_of (map (writes_items l.names) l.writes)
