use Rattle.std.proofs.Common.{List, ℕ, Err, ap, refl, subst}
use Rattle.bst_step.specs.Machine.{configuration, style_of}
use Rattle.bst_run.specs.Delivery.{IsCut, IsHeld, OutFailed, OutWanting, sunk}
use Rattle.bst_run.proofs.DeliveryLemmas.{appended_nothing}
use Rattle.bst_run.proofs.RunLemmas.{run_lines, stands_at}
use Rattle.bst_run.proofs.running.put_run.Goals as goal

-- memory was wanting for the lines
pub returns : goal.returns
returns g c =
    OutWanting refl
    (subst (λ (t : List ℕ). IsHeld t (sunk g.O.Sink c.args.out.now c.put_lines.new.out))
    (run_lines c.args.run.now _
    (stands_at c.args.run.now (style_of c.in-Ok.machine) (configuration c.in-Ok.machine) c.in-Ok.ensures.style c.in-Ok.ensures.opening))
    (c.in-Err-NoMemory.ensures.wanting (ap Err c.in-Err-NoMemory.field-0-is)))
    (record { taken = appended_nothing (g.E.Sink.written c.args.err.now); steady = refl })

-- standard output has failed in the lines
pub returns-in-Err-Failed : goal.returns-in-Err-Failed
returns-in-Err-Failed g c =
    OutFailed refl
    (subst (λ (t : List ℕ). IsCut t (sunk g.O.Sink c.args.out.now c.put_lines.new.out))
    (run_lines c.args.run.now _
    (stands_at c.args.run.now (style_of c.in-Ok.machine) (configuration c.in-Ok.machine) c.in-Ok.ensures.style c.in-Ok.ensures.opening))
    (c.in-Err-Failed.ensures.failed (ap Err c.in-Err-Failed.field-0-is)))
    (record { taken = appended_nothing (g.E.Sink.written c.args.err.now); steady = refl })
