-- At first all strings in front are finished and the others are to come, and in the end none is.
use Rattle.std.proofs.Common.{List, ℕ, arith, le_refl, subst}
use Rattle.bst_step.specs.Settled.{AreParted}
use Rattle.bst_step.proofs.SettledSteps.{renewed_not, renewed_whole}
use Rattle.bst_step.proofs.renewal.renew_values.Goals as goal

pub loop-from-init : goal.loop-from-init
loop-from-init c = record {
  size = omega (arith, c.max-room.ensures);
  globals = renewed_not c.args.pool.now.items c.args.globals.now c.requires.globals;
  own = renewed_not c.args.pool.now.items c.args.own.now c.requires.own;
  behind = le_refl c.front_of-front.result;
  parted =
      subst (λ (l : List ℕ). AreParted c.front_of-front.result c.front_of-front.result l c.args.globals.now c.args.own.now) c.as_slice.ensures.value
      c.front_of-front.ensures;
}

pub returns-clause-globals : goal.returns-clause-globals
returns-clause-globals c =
    renewed_whole c.args.pool.now.items c.loop-from.pool.items c.truncate.new.self.items c.loop-from.to c.loop-from.from c.args.globals.now
    c.loop-from.globals c.loop-from.invariant.globals c.loop-from.invariant.parted.globals_stand
    (omega (arith, c.loop-from-test.false, c.loop-from.pool.ok.0, c.loop-from.pool.ok.1, c.loop-from.pool.small)) c.loop-from.invariant.parted.here
    c.truncate.ensures.items

pub returns-clause-own : goal.returns-clause-own
returns-clause-own c =
    renewed_whole c.args.pool.now.items c.loop-from.pool.items c.truncate.new.self.items c.loop-from.to c.loop-from.from c.args.own.now
    c.loop-from.own c.loop-from.invariant.own c.loop-from.invariant.parted.own_stand
    (omega (arith, c.loop-from-test.false, c.loop-from.pool.ok.0, c.loop-from.pool.ok.1, c.loop-from.pool.small)) c.loop-from.invariant.parted.here
    c.truncate.ensures.items
