use Rattle.std.proofs.Common.{◌≡◌, ◌≤◌, max, map, drop}
use Rattle.sym_state.specs.Starting.{symbol_count}
use Rattle.sym_state.proofs.raising.symbols_bound.Given as goal

-- the count so far and that of the symbols that are left
abbrev pub invariant-loop-bind : goal.invariant-loop-bind
invariant-loop-bind l = record {
  count : max l.count (symbol_count (map (λ bind. bind.sym) (drop l.bind-index l.binds))) ≡ symbol_count (map (λ bind. bind.sym) l.binds);
  small : l.count ≤ 4294967296;
}
