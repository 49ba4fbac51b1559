-- The certificate keeps the condition, has a text and is one of the style.
use Rattle.std.proofs.Common.{length}
use Rattle.infer.proofs.Kept.{made_kept}
use Rattle.infer.proofs.analyser.with_templates.Goals as goal

pub returns-in-Ok-clause-keeps : goal.returns-in-Ok-clause-keeps
returns-in-Ok-clause-keeps c =
    made_kept c.args.style.now c.args.cert c.with_made.result (length c.args.style.now.commands) c.in-Ok.made c.requires.cond c.requires.bare
    c.with_made.ensures c.in-Ok.ensures.records c.in-Ok.ensures.lasts
