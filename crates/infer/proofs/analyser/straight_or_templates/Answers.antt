-- The certificate keeps the condition, has a text and is one of the style.
use Rattle.infer.proofs.Kept.{parts_kept}
use Rattle.infer.proofs.analyser.straight_or_templates.Goals as goal

pub returns-in-Ok-clause-keeps : goal.returns-in-Ok-clause-keeps
returns-in-Ok-clause-keeps c =
    parts_kept c.args.style.now c.args.cert c.with_parts.result c.in-Ok.parts.items c.requires.sound c.requires.cond c.requires.bare c.with_parts.ensures
    c.in-Ok.ensures.written
