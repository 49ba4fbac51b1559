-- A state at the end of the call.
use Rattle.std.proofs.Common.{subst, sym, arith}
use Rattle.std.proofs.lemmas.List.Elements.{All-get_or}
use Rattle.cert_check.specs.Room.{IsEnd}
use Rattle.command_flow.proofs.templates.with_ends.Goals as goal

pub push_pieces-requires-clause-state : goal.push_pieces-requires-clause-state
push_pieces-requires-clause-state c =
    let within = c.loop-state-test.true in
    subst (IsEnd c.args.at.now.style.now) (sym c.state-item.is)
    (All-get_or (IsEnd c.args.at.now.style.now) c.args.states.now c.loop-state.state-index c.state-item.result (omega (arith, within)) c.requires.states)
