-- The loop is read or made.
use Rattle.std.proofs.Common.{rules}
use Rattle.cert_check.specs.Here.{here}
use Rattle.cert_check.proofs.WhileSteps.{alone_takes, read_takes}
use Rattle.cert_check.proofs.whiles.while_in.Goals as goal

pub returns-then-makes : goal.returns-then-makes
returns-then-makes g c = record {
  takes = alone_takes (g.M.Loops.made c.args.at.now.maker.now) (here g.M.Loops.made c.args.at.now) c.args.at.now.place c.args.state.now c.args.course.now
      c.while_alone.new.course c.while_alone.result (search rules) c.while_alone.ensures.takes;
}

pub returns-else-makes : goal.returns-else-makes
returns-else-makes g c = record {
  takes = read_takes (g.M.Loops.made c.args.at.now.maker.now) (here g.M.Loops.made c.args.at.now) c.args.at.now.place c.args.state.now c.args.course.now
      c.repeated.new.course c.repeated.result (search rules) c.repeated.ensures.takes;
}
