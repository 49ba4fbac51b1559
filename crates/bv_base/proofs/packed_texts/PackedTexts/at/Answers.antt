-- A text is read where its mark stands.
use Rattle.std.proofs.Common.{arith}
use Rattle.bv_base.proofs.Packing.{none_read, text_read}
use Rattle.bv_base.proofs.packed_texts.PackedTexts.at.Goals as goal

pub returns-then-at-marks : goal.returns-then-at-marks
returns-then-at-marks c =
    none_read c.self.inside.bytes.items c.self.inside.marks.items c.as_slice-marks.result.now c.args.at c.args.self.now
    c.as_slice-marks.ensures.value (omega (arith, c.if-at-marks.true)) c.self.view_is

pub returns : goal.returns
returns c =
    text_read c.self.inside.bytes.items c.self.inside.marks.items c.as_slice.result.now c.as_slice-marks.result.now c.begin_in.result c.args.at _ _
    c.args.self.now c.as_slice.ensures.value c.as_slice-marks.ensures.value (omega (arith, c.if-at-marks.false)) c.begin_in.ensures c.text_in.ensures
    c.self.view_is
