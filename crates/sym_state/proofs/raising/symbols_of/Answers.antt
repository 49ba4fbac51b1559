-- The count of a piece is the greatest of its three.
use Rattle.std.proofs.Common.{ℕ, ap, ◌∙◌, List, map, arith}
use Rattle.sym_state.specs.declared.symbol.Bind.{Bind}
use Rattle.sym_state.specs.Starting.{symbol_count}
use Rattle.sym_state.proofs.Numbering.{piece_count}
use Rattle.sym_state.proofs.raising.symbols_of.Goals as goal

pub returns : goal.returns
returns c =
    let count = piece_count c.args.piece.now in
    let of_binds : List Bind → ℕ = λ bs. symbol_count (map (λ b. b.sym) bs) in
    let vars = c.symbols_bound.ensures ∙ ap of_binds c.as_slice.ensures in
    let fields = c.symbols_bound-2.ensures ∙ ap of_binds c.as_slice-2.ensures in
    let stack = c.symbols_on.ensures ∙ ap symbol_count c.as_slice-3.ensures in
    omega (arith, count, vars, fields, stack, c.max.ensures, c.max-placed.ensures)
