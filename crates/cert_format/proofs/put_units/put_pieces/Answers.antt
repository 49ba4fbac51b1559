use Rattle.std.proofs.Common.{◌∙◌}
use Rattle.cert_format.specs.UnitSpelling.{marked_lines}
use Rattle.cert_format.proofs.Texts.{each_step}
use Rattle.cert_format.proofs.put_units.put_pieces.Goals as goal

pub loop-piece-preserved : goal.loop-piece-preserved
loop-piece-preserved c =
    each_step (marked_lines c.args.word.now c.args.names.now) c.args.pieces.now c.loop-piece.piece-index c.piece-item.result c.loop-piece.printer c.put_marked.new.printer c.loop-piece-test.true
    c.piece-item.is c.in_ok-put_marked.ensures
    ∙ c.loop-piece.invariant
