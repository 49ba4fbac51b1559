use Rattle.std.proofs.Common.{◌≡◌, ◌++◌, take}
use Rattle.std.specs.List.{All, flat_map}
use Rattle.bst_meaning.specs.StyleParts.{kind_of}
use Rattle.sym_state.specs.Starting.{own_rows}
use Rattle.sym_state.specs.WellMade.{IsBounded}
use Rattle.sym_state.proofs.start.add_own_rows.Given as goal

-- the rows of the bindings so far are added
abbrev pub invariant-loop-bind : goal.invariant-loop-bind
invariant-loop-bind l = record {
  added : l.rows.items ≡ l.fn.rows.items ++ flat_map (λ bind. own_rows l.cond (kind_of l.style bind.name) bind) (take l.bind-index l.binds);
  bounded : All IsBounded l.fn.rows.items → All IsBounded l.rows.items;
}
