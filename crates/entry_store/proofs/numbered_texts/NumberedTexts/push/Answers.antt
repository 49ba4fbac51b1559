use Rattle.std.proofs.Common.{Some}
use Rattle.entry_store.proofs.Numbering.{pushed}
use Rattle.entry_store.proofs.numbered_texts.NumberedTexts.push.Goals as goal

pub returns-clause-ok : goal.returns-clause-ok
returns-clause-ok c =
    pushed c.self.inside.numbers.items c.push.new.self.items c.self.inside.texts c.push-2.new.self c.args.number (Some c.args.text.now)
    c.args.self.now c.self.invariant c.self.view_is c.in_ok-push.ensures.items c.in-Ok.ensures.ok
