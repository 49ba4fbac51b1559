use Rattle.std.proofs.Common.{◌≡◌, ◌++◌, drop}
use Rattle.cert_format.specs.PieceItems.{blocks_from}
use Rattle.cert_format.proofs.styled.blocks_of.Given as goal

abbrev pub invariant-loop-body : goal.invariant-loop-body
invariant-loop-body l =
    record {
      counted : l.id ≡ l.body-index;
      left : l.blocks.items ++ blocks_from l.id (drop l.body-index l.bodies) ≡ blocks_from 0 l.bodies;
    }
