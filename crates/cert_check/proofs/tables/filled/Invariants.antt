use Rattle.std.proofs.Common.{◌≡◌}
use Rattle.std.specs.List.{All}
use Rattle.cert_check.proofs.tables.filled.Given as goal

-- those so far are equal to the value
abbrev pub invariant-loop : goal.invariant-loop
invariant-loop g l = All (λ one. one ≡ l.value) l.all.items
