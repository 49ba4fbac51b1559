-- The hints are those of the definition: they have short proofs and can be written.
use Rattle.straight_hints.specs.Found.{piece_hints}
use Rattle.straight_hints.proofs.Short.{found_short, piece_short}
use Rattle.straight_hints.proofs.Written.{found_written_by, piece_written}
use Rattle.straight_hints.proofs.pieces.piece_hints.Goals as goal

pub returns-clause-short : goal.returns-clause-short
returns-clause-short c =
    found_short (piece_hints c.args.finding c.args.cond.now c.args.state.now c.args.piece.now) c.row_steps.result
    (piece_short c.args.finding c.args.cond.now c.args.state.now c.args.piece.now) c.row_steps.ensures

pub returns-clause-written : goal.returns-clause-written
returns-clause-written c =
    found_written_by (piece_hints c.args.finding c.args.cond.now c.args.state.now c.args.piece.now) c.row_steps.result
    (piece_written c.args.finding c.args.cond.now c.args.state.now c.args.piece.now c.requires.few) c.row_steps.ensures
