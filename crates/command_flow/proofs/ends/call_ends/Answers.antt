-- A state at the end of the call.
use Rattle.std.proofs.Common.{subst, sym, arith}
use Rattle.std.proofs.lemmas.List.Elements.{All-get_or}
use Rattle.sym_state.specs.WellMade.{HasBounds}
use Rattle.command_flow.proofs.ends.call_ends.Goals as goal

pub state_ends-requires-clause-state : goal.state_ends-requires-clause-state
state_ends-requires-clause-state c =
    let within = c.loop-state-test.true in
    subst HasBounds (sym c.state-item.is)
    (All-get_or HasBounds c.args.states.now c.loop-state.state-index c.state-item.result (omega (arith, within)) c.requires.states)
