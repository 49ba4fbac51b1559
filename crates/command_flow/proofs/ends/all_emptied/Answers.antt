-- No hint is taken.
use Rattle.command_flow.proofs.CommandsFound.{ends_same}
use Rattle.command_flow.proofs.ends.all_emptied.Goals as goal

pub returns : goal.returns
returns c = ends_same c.args.at.now.cond.now c.args.at.now.command.place c.args.states.now c.args.hints.now _ _ c.call_ends.result c.new.ensures c.call_ends.ensures.ends
