-- A text that is appended stands behind the others.
use Rattle.std.proofs.Common.{arith}
use Rattle.bv_base.proofs.Packing.{appended_stand, appended_texts}
use Rattle.bv_base.proofs.packed_texts.append.Goals as goal

pub returns-clause-stand : goal.returns-clause-stand
returns-clause-stand c =
    appended_stand c.args.bytes.now.items c.extend_from_slice.new.self.items c.args.more.now c.args.marks.now.items c.push.new.self.items
    c.in_ok-mark.mark c.requires (omega (arith, c.in_ok-mark.ensures.end, c.len.ensures)) c.in-Ok.ensures.items c.in_ok-push.ensures.items

pub returns-clause-texts : goal.returns-clause-texts
returns-clause-texts c =
    appended_texts c.args.bytes.now.items c.extend_from_slice.new.self.items c.args.more.now c.args.marks.now.items c.push.new.self.items
    c.in_ok-mark.mark c.args.there c.requires (omega (arith, c.in_ok-mark.ensures.end, c.len.ensures)) c.in_ok-mark.ensures.there c.in-Ok.ensures.items
    c.in_ok-push.ensures.items
