-- The state has room, since its pieces have few symbols.
use Rattle.std.proofs.Common.{◌≡◌, true, sym, subst, arith}
use Rattle.std.proofs.lemmas.Result.{IfOk-weaker}
use Rattle.sym_state.specs.Starting.{started}
use Rattle.cert_check.specs.Room.{HasRoom}
use Rattle.command_flow.proofs.Ready.{few_symbols, pieces_room}
use Rattle.command_flow.proofs.flow.state_of.Goals as goal

pub start-requires-clause-few : goal.start-requires-clause-few
start-requires-clause-few c =
    let symbols = few_symbols c.args.at.now.style.now c.args.pieces.now c.requires.ready c.requires.few in
    let names = c.requires.at.sound.few_names in
    omega (arith, symbols, names)

pub returns-clause-room : goal.returns-clause-room
returns-clause-room c =
    let state = started c.args.at.now.style.now c.args.at.now.cond.now c.args.pieces.now true c.args.at_entry in
    IfOk-weaker c.start.result (λ s. s ≡ state) (HasRoom c.args.at.now.style.now 64 0)
    (λ s same. subst (HasRoom c.args.at.now.style.now 64 0) (sym same)
    (pieces_room c.args.at.now.style.now c.args.at.now.cond.now c.args.pieces.now true c.args.at_entry c.requires.at.sound c.requires.at.small c.requires.ready c.requires.few)) c.start.ensures.started
