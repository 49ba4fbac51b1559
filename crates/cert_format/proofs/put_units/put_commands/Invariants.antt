use Rattle.std.proofs.Common.{◌≡◌, ◌++◌, drop}
use Rattle.cert_format.specs.UnitSpelling.{command_lines, each_lines}
use Rattle.cert_format.specs.Spelling.{text_of}
use Rattle.cert_format.proofs.put_units.put_commands.Given as goal

abbrev pub invariant-loop-command : goal.invariant-loop-command
invariant-loop-command l =
    l.printer ++ text_of (each_lines (command_lines l.style) (drop l.command-index l.commands))
    ≡ l.fn.printer ++ text_of (each_lines (command_lines l.style) l.commands)
