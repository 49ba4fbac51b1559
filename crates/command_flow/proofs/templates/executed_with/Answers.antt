-- What is left may be shown.
use Rattle.std.proofs.Common.{false, ap, ◌∙◌}
use Rattle.command_flow.specs.Commands.{given}
use Rattle.command_flow.proofs.MadeParts.{known_bare, known_ready, one_bare, one_ends}
use Rattle.command_flow.proofs.templates.executed_with.Goals as goal

pub with_ends-requires-clause-pieces : goal.with_ends-requires-clause-pieces
with_ends-requires-clause-pieces c =
    one_ends c.args.at.now.style.now c.in_ok-known.known c.from_ref.result.now
    (known_ready c.args.at.now.style.now false c.args.after c.in_ok-known.known c.requires.at.sound c.requires.after
    (c.in_ok-known.ensures ∙ ap given c.as_ref.ensures.value))
    c.from_ref.ensures.value

pub with_ends-requires-clause-bare : goal.with_ends-requires-clause-bare
with_ends-requires-clause-bare c =
    one_bare c.in_ok-known.known c.from_ref.result.now
    (known_bare c.args.at.now.style.now false c.args.after c.in_ok-known.known c.requires.after (c.in_ok-known.ensures ∙ ap given c.as_ref.ensures.value))
    c.from_ref.ensures.value
