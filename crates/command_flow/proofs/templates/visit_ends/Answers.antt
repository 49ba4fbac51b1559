-- What stands before the next visit, and what is kept, may be shown.
use Rattle.std.proofs.Common.{sym, subst}
use Rattle.sym_state.specs.Positions.{AtNext}
use Rattle.command_flow.specs.Ready.{IsReady}
use Rattle.command_flow.proofs.MadeParts.{two_end}
use Rattle.command_flow.proofs.Ready.{ready_moved}
use Rattle.command_flow.proofs.templates.visit_ends.Goals as goal

pub with_ends-requires-clause-pieces : goal.with_ends-requires-clause-pieces
with_ends-requires-clause-pieces c =
    let style = c.args.at.now.style.now in
    two_end style c.in_ok-piece_moved.field-0 c.in_ok-copied.field-0
    (subst (IsReady style) (sym c.in_ok-piece_moved.ensures) (ready_moved style AtNext c.args.visit.now c.requires.visit.ready c.requires.visit.movable))
    (subst (IsReady style) (sym c.in_ok-copied.ensures) c.requires.kept)
