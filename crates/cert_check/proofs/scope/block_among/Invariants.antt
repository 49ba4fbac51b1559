use Rattle.std.proofs.Common.{◌≡◌, drop}
use Rattle.cert_check.specs.Walks.{block_body}
use Rattle.cert_check.proofs.scope.block_among.Given as goal

-- among the bodies that are left it is the one that is sought among all
abbrev pub invariant-loop-id : goal.invariant-loop-id
invariant-loop-id l = block_body l.number l.id (drop l.id l.bodies) ≡ block_body l.number 0 l.bodies
