-- ITERATE and REVERSE make what their visits come to, and another command makes nothing.
use Rattle.std.proofs.Common.{List, sym, subst}
use Rattle.cert_format.specs.declared.cert.CommandPart.{CommandPart}
use Rattle.command_flow.specs.Templates.{AreMadeAt, seeking_by}
use Rattle.command_flow.proofs.CommandsMade.{nothing_made, visits_made}
use Rattle.command_flow.proofs.MadeParts.{no_part}
use Rattle.command_flow.proofs.templates.command_made.Goals as goal

pub returns-in_default : goal.returns-in_default
returns-in_default g c = record {
  makes = nothing_made (seeking_by c.args.at.now.checker.now (g.M.Loops.made c.args.maker.now)) c.args.index c.args.at.now.command.command
      c.args.at.now.command.place c.args.lasting c.new.result c.in_default.not-Execute c.in_default.not-Iterate c.in_default.not-Reverse c.new.ensures;
  made = record {
    parts = subst (λ (parts : List CommandPart). AreMadeAt c.args.at.now.style.now c.args.index parts) (sym c.new.ensures)
        (no_part c.args.at.now.style.now c.args.index);
    lasting = c.requires.lasts;
  };
}

pub returns-in-Iterate-clause-makes : goal.returns-in-Iterate-clause-makes
returns-in-Iterate-clause-makes g c =
    visits_made (seeking_by c.args.at.now.checker.now (g.M.Loops.made c.args.maker.now)) c.args.index c.args.at.now.command.command c.in-Iterate.name
    c.args.at.now.command.place c.args.lasting c.visited.result c.in-Iterate.is c.visited.ensures.makes
