-- What comes of the commands that are left behind what was made so far is what comes of all.
use Rattle.std.proofs.Common.{◌≡◌, drop}
use Rattle.command_flow.specs.Templates.{AreMadeBefore, CanLast, commands_in, made_in, seeking_by}
use Rattle.command_flow.proofs.templates.commands_made.Given as goal

abbrev pub invariant-loop-index : goal.invariant-loop-index
invariant-loop-index g l = record {
  left : commands_in (seeking_by l.checker (g.M.Loops.made l.maker)) l.index l.lasting l.parts.items (drop l.index l.checker.style.commands)
      ≡ made_in (seeking_by l.checker (g.M.Loops.made l.maker));
  records : AreMadeBefore l.style l.index l.parts.items;
  lasts : CanLast l.style l.lasting;
}
