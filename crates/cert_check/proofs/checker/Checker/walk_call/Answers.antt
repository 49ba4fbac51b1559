use Rattle.std.proofs.Common.{ap, ◌∙◌, None}
use Rattle.cert_check.specs.Units.{beginning}
use Rattle.cert_check.specs.Walks.{Over, scope_of}
use Rattle.cert_check.proofs.UnitSteps.{called}
use Rattle.cert_check.proofs.checker.Checker.walk_call.Goals as goal

pub returns-clause-takes : goal.returns-clause-takes
returns-clause-takes c =
    called c.args.self.now.style c.args.self.now.cert c.args.states.items c.args.target c.args.place c.args.hints.now (scope_of c.scope-scope.result None) c.new-course.result
    c.target_from.new.course c.take_given.result.items c.new.result (ap (λ (over : Over). scope_of over None) c.scope-scope.ensures.scope) (c.new-course.ensures ∙ ap beginning c.rest.ensures)
    c.in_ok-target_from.ensures.takes c.take_given.ensures.given (c.new.ensures ∙ c.rest-2.ensures.rest)
