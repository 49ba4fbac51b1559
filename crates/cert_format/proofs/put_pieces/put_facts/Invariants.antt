use Rattle.std.proofs.Common.{◌≡◌, ◌++◌, map, drop}
use Rattle.cert_format.specs.PieceSpelling.{fact_items}
use Rattle.cert_format.specs.Spelling.{text_of}
use Rattle.cert_format.proofs.put_pieces.put_facts.Given as goal

abbrev pub invariant-loop-fact : goal.invariant-loop-fact
invariant-loop-fact l =
    l.printer ++ text_of (map (fact_items l.names) (drop l.fact-index l.facts))
    ≡ l.fn.printer ++ text_of (map (fact_items l.names) l.facts)
