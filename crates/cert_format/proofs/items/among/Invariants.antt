use Rattle.std.proofs.Common.{◌≡◌, map, drop}
use Rattle.cert_format.specs.Items.{among}
use Rattle.cert_format.proofs.items.among.Given as goal

abbrev pub invariant-loop-known : goal.invariant-loop-known
invariant-loop-known g l =
    among l.fn.text (map (λ row. (row.0.now, row.1)) l.fn.table) ≡ among l.fn.text (map (λ row. (row.0.now, row.1)) (drop l.known-index l.table))
