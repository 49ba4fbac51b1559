-- What the record gives may start states.
use Rattle.std.proofs.Common.{◌≡◌, sym, subst}
use Rattle.std.specs.Prelude.{option_map}
use Rattle.command_flow.specs.Commands.{parts_of}
use Rattle.command_flow.specs.Ready.{ArePartsReady}
use Rattle.command_flow.specs.declared.between.Parts.{Parts}
use Rattle.command_flow.proofs.Flowing.{ok_has}
use Rattle.command_flow.proofs.Ready.{parts_ready}
use Rattle.command_flow.proofs.flow.command_taken.Goals as goal

pub command_checked-requires-clause-parts : goal.command_checked-requires-clause-parts
command_checked-requires-clause-parts c =
    subst (ArePartsReady c.args.at.now.style.now)
    (sym (ok_has (λ (p : Parts). p ≡ parts_of (option_map (λ q. q.now) c.args.part)) c.parts_of.result c.in_ok-parts.parts c.in_ok-parts.ensures c.parts_of.ensures))
    (parts_ready c.args.at.now.style.now (option_map (λ q. q.now) c.args.part) c.requires.part)
