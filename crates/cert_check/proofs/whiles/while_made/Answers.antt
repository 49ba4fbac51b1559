-- The loop that is known is used.
use Rattle.std.proofs.Common.{◌+◌, rules, subst, take}
use Rattle.cert_check.specs.Here.{here}
use Rattle.cert_check.specs.Walks.{While, made_by, made_used}
use Rattle.cert_check.proofs.WhileSteps.{known_takes, loop_there}
use Rattle.cert_check.specs.Given.{Takes}
use Rattle.cert_check.proofs.whiles.while_made.Goals as goal

pub made_used-requires-clause-one : goal.made_used-requires-clause-one
made_used-requires-clause-one g c =
    loop_there c.args.at.now.scope.now.style (record { made = c.loop_for.new.made.items; course = c.args.course.now }) c.in_ok-k.k c.loop_at-found.result.now
    c.in_ok-k.ensures.made (search rules)

pub returns : goal.returns
returns g c = record {
  takes = known_takes (made_by (g.M.Loops.made c.args.at.now.maker.now)) (here g.M.Loops.made c.args.at.now) c.args.at.now.place c.args.states.now
      (take c.args.earlier c.args.states.now) c.args.one.now c.args.made.now.items c.loop_for.new.made.items c.loop_at-found.result.now c.in_ok-k.k
      (c.loop_count.result + c.in_ok-k.k) c.count_entering-case.result c.args.course.now c.made_used.new.course c.made_used.result c.in_ok-k.ensures.takes
      (search rules) (search rules) (c.count_entering-case.ensures (g.M.Loops.made c.args.at.now.maker.now))
      (subst (λ (w : While). Takes (made_used (here g.M.Loops.made c.args.at.now) c.args.at.now.place
      (record { number = c.loop_count.result + c.in_ok-k.k; one = c.loop_at-found.result.now }) c.count_entering-case.result w.rest c.args.course.now)
      c.made_used.new.course c.made_used.result) c.one.view_is c.made_used.ensures.takes);
}
