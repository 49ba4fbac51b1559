-- The scope of a checker without units to check is everywhere.
use Rattle.std.proofs.Common.{None, subst}
use Rattle.cert_check.specs.Given.{Takes}
use Rattle.cert_check.specs.Tours.{turn_of}
use Rattle.cert_check.specs.Walks.{Over, scope_of}
use Rattle.cert_check.proofs.checker.Checker.find_turn.Goals as goal

pub returns-clause-takes : goal.returns-clause-takes
returns-clause-takes c =
    subst (λ (over : Over). Takes (turn_of (scope_of over None) c.args.one c.args.case.now c.args.tour.now) c.turn_of.new.tour c.turn_of.result) c.scope-scope.ensures.scope
    c.turn_of.ensures.takes
