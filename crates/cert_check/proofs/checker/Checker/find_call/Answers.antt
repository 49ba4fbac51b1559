use Rattle.std.proofs.Common.{ap, ◌∙◌, None}
use Rattle.cert_check.specs.Courses.{Course}
use Rattle.cert_check.specs.Walks.{Over, scope_of}
use Rattle.cert_check.proofs.UnitSteps.{called_finding}
use Rattle.cert_check.proofs.checker.Checker.find_call.Goals as goal

pub returns-clause-finds : goal.returns-clause-finds
returns-clause-finds c =
    called_finding c.args.finding c.args.self.now.style c.args.self.now.cert c.args.states.items c.args.target c.args.place (scope_of c.scope-scope.result None)
    c.searching-course.result c.target_from.new.course c.take_given.result.items c.take_found-found.result.items (ap (λ (over : Over). scope_of over None) c.scope-scope.ensures.scope)
    c.searching-course.ensures c.in_ok-target_from.ensures.takes
    (c.take_given.ensures.given ∙ ap (λ (course : Course). course.given) c.take_found-found.ensures.rest) c.take_found-found.ensures.found
