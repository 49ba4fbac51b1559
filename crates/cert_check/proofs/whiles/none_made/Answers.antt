-- With those that were made before they are few.
use Rattle.std.proofs.Common.{rules}
use Rattle.cert_check.proofs.WhileSteps.{none_are}
use Rattle.cert_check.proofs.whiles.none_made.Goals as goal

pub returns-clause-made : goal.returns-clause-made
returns-clause-made g c = none_are c.args.at.now.scope.now.style c.new.result.items c.args.course.now (search rules) c.loop_count.ensures.few
