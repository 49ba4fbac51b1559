-- The symbols at a piece's places are below its count.
use Rattle.std.proofs.Common.{◌<◌, ◌-◌, arith}
use Rattle.std.proofs.lemmas.List.Elements.{All-same}
use Rattle.sym_state.proofs.Numbering.{stack_below, vars_below, fields_below}
use Rattle.sym_state.proofs.raising.add_piece.Goals as goal

pub add_stack-requires : goal.add_stack-requires
add_stack-requires c = All-same (λ s. s.0 < 4294967296 - c.args.contents.now.next) _ _ c.as_slice.ensures (stack_below _ c.args.piece.now (omega arith))

pub add_binds-requires : goal.add_binds-requires
add_binds-requires c = All-same (λ b. b.sym.0 < 4294967296 - c.args.contents.now.next) _ _ c.as_slice-2.ensures (vars_below _ c.args.piece.now (omega arith))

pub add_binds-requires-2 : goal.add_binds-requires-2
add_binds-requires-2 c = All-same (λ b. b.sym.0 < 4294967296 - c.args.contents.now.next) _ _ c.as_slice-3.ensures (fields_below _ c.args.piece.now (omega arith))
