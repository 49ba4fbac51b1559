use Rattle.std.proofs.Common.{◌≡◌, ◌≤◌, max, drop}
use Rattle.sym_state.specs.Starting.{symbol_count}
use Rattle.sym_state.proofs.raising.symbols_on.Given as goal

-- the count so far and that of the symbols that are left
abbrev pub invariant-loop-sym : goal.invariant-loop-sym
invariant-loop-sym l = record {
  count : max l.count (symbol_count (drop l.sym-index l.stack)) ≡ symbol_count l.stack;
  small : l.count ≤ 4294967296;
}
