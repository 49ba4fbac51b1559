use Rattle.cert_check.proofs.TableSteps.{body_next, none_placed}
use Rattle.cert_check.proofs.tables.bodies_by_number.Goals as goal

pub loop-id-init : goal.loop-id-init
loop-id-init c = none_placed _ c.in_ok-found.found.items c.args.bodies.now c.in_ok-found.ensures

pub loop-id-preserved-in-Some : goal.loop-id-preserved-in-Some
loop-id-preserved-in-Some c =
    body_next c.loop-id.found.items c.put.new.table.items c.args.bodies.now c.loop-id.id _ c.in-Some.number c.loop-id-test.true c.loop-id.auto.id c.in-Some.is
    c.put.ensures c.loop-id.invariant
