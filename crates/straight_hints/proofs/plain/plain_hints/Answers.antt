-- The hints are those of the definition, whose proofs are short and can be written.
use Rattle.std.proofs.Common.{arith, subst, sym}
use Rattle.std.specs.List.{All}
use Rattle.cert_format.specs.CertText.{IsHint}
use Rattle.name_table.specs.Sound.{Each}
use Rattle.sym_state.specs.Demands.{HasFewUses}
use Rattle.straight_hints.proofs.Short.{plain_short}
use Rattle.straight_hints.proofs.Written.{plain_written}
use Rattle.straight_hints.proofs.plain.plain_hints.Goals as goal

pub returns-in-Ok-clause-few : goal.returns-in-Ok-clause-few
returns-in-Ok-clause-few c =
    subst (All HasFewUses) (sym c.in-Ok.ensures)
    (plain_short c.args.finding c.args.style.now c.args.cond.now c.args.state.now c.args.op)

pub returns-in-Ok-clause-written : goal.returns-in-Ok-clause-written
returns-in-Ok-clause-written c =
    let room = c.requires.room in
    subst (Each IsHint) (sym c.in-Ok.ensures)
    (plain_written c.args.finding c.args.style.now c.args.cond.now c.args.state.now c.args.op (omega (arith, room)))
