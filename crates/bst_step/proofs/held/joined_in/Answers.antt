-- The first string stands at the end of the pool, and the second is appended.
use Rattle.std.proofs.Common.{◌-◌, List, ℕ, ap, arith, length}
use Rattle.bst_step.proofs.HeldSteps.{grown_twice, longer}
use Rattle.bst_step.proofs.ViewSteps.{front_stays, joined_string}
use Rattle.bst_step.proofs.held.joined_in.Goals as goal

pub append_to-requires : goal.append_to-requires
append_to-requires c =
    omega (arith, c.requires.b, longer c.args.pool.now.items c.brought_to_end.new.pool.items c.in_ok-start.ensures.grown)

pub returns-clause-value : goal.returns-clause-value
returns-clause-value c =
    joined_string c.args.pool.now.items c.brought_to_end.new.pool.items c.append_to.new.pool.items c.args.a c.args.b c.in_ok-start.start
    (length c.as_slice.result.now - c.in_ok-start.start) c.in_ok-start.ensures.within c.in_ok-start.ensures.last c.in_ok-start.ensures.grown c.requires.b
    c.in_ok-append_to.ensures.appended (ap (λ (l : List ℕ). length l - c.in_ok-start.start) c.as_slice.ensures.value)

pub returns-clause-within : goal.returns-clause-within
returns-clause-within c =
    omega (
      arith,
      c.in_ok-start.ensures.within,
      ap (λ (l : List ℕ). length l) c.as_slice.ensures.value,
      longer c.brought_to_end.new.pool.items c.append_to.new.pool.items
          (front_stays c.brought_to_end.new.pool.items c.append_to.new.pool.items _ c.in_ok-append_to.ensures.appended),
    )

pub returns-clause-grown : goal.returns-clause-grown
returns-clause-grown c =
    grown_twice c.args.pool.now.items c.brought_to_end.new.pool.items c.append_to.new.pool.items c.in_ok-start.ensures.grown
    (front_stays c.brought_to_end.new.pool.items c.append_to.new.pool.items _ c.in_ok-append_to.ensures.appended)
