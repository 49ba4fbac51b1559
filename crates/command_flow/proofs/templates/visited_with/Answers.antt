-- What is kept may be shown.
use Rattle.std.proofs.Common.{false, ap, ◌∙◌}
use Rattle.command_flow.specs.Commands.{given}
use Rattle.command_flow.specs.declared.between.Between.{Between}
use Rattle.command_flow.proofs.MadeParts.{known_bare, known_ready}
use Rattle.command_flow.proofs.templates.visited_with.Goals as goal

pub visits_hints-requires-clause-kept : goal.visits_hints-requires-clause-kept
visits_hints-requires-clause-kept c =
    known_ready c.args.at.now.style.now false c.args.keeps c.in_ok-between.between.entry c.requires.at.sound c.requires.keeps
    (ap (λ (between : Between). between.entry) c.in_ok-between.ensures ∙ ap given c.as_ref.ensures.value)

pub visits_hints-requires-clause-bare : goal.visits_hints-requires-clause-bare
visits_hints-requires-clause-bare c =
    known_bare c.args.at.now.style.now false c.args.keeps c.in_ok-between.between.entry c.requires.keeps
    (ap (λ (between : Between). between.entry) c.in_ok-between.ensures ∙ ap given c.as_ref.ensures.value)
