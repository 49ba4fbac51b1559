use Rattle.std.proofs.Common.{◌≡◌, ◌+◌, ◌++◌, drop}
use Rattle.std.specs.List.{flat_map}
use Rattle.sym_state.specs.Starting.{all_symbols, bound_by, numbered_on}
use Rattle.sym_state.proofs.raising.joined.Given as goal

-- what the pieces so far say and what those that are left say is what all say
abbrev pub invariant-loop-piece : goal.invariant-loop-piece
invariant-loop-piece l = record {
  stack : l.joined.stack.items ++ flat_map (λ piece. piece.stack) (numbered_on l.joined.next (drop l.piece-index l.pieces)) ≡ flat_map (λ piece. piece.stack) (numbered_on 0 l.pieces);
  binds : l.joined.binds.items ++ bound_by (numbered_on l.joined.next (drop l.piece-index l.pieces)) ≡ bound_by (numbered_on 0 l.pieces);
  facts : l.joined.facts.items ++ flat_map (λ piece. piece.facts) (numbered_on l.joined.next (drop l.piece-index l.pieces)) ≡ flat_map (λ piece. piece.facts) (numbered_on 0 l.pieces);
  rows : l.joined.rows.items ++ flat_map (λ piece. piece.rows) (numbered_on l.joined.next (drop l.piece-index l.pieces)) ≡ flat_map (λ piece. piece.rows) (numbered_on 0 l.pieces);
  next : l.joined.next + all_symbols (drop l.piece-index l.pieces) ≡ all_symbols l.pieces;
}
