use Rattle.std.proofs.Common.{◌≡◌, List, Ok, ap, subst}
use Rattle.std.specs.Result.{MatchResult}
use Rattle.bst_meaning.specs.declared.condition.Cond.{Cond}
use Rattle.sym_state.specs.declared.hint.Hint.{Hint}
use Rattle.cert_check.specs.Courses.{Course, placed}
use Rattle.cert_check.specs.Given.{Refused}
use Rattle.cert_check.specs.Uses.{comes_by}
use Rattle.cert_check.proofs.Placing.{placed_leaves}
use Rattle.cert_check.proofs.course.Course.comes.Goals as goal

pub returns-clause-comes : goal.returns-clause-comes
returns-clause-comes g c =
    subst (λ (hints : List Hint). MatchResult c.placed.result
    (λ _. comes_by c.args.unit.now c.args.at.now.scope.now.cert.cond c.args.pre.now c.args.state.now hints ≡ Ok c.comes_by.new.hints)
    (Refused (placed c.args.at.now.place (comes_by c.args.unit.now c.args.at.now.scope.now.cert.cond c.args.pre.now c.args.state.now hints))))
    (ap (λ (course : Course). course.hints) c.self.view_is)
    (subst (λ (cond_of : Cond). MatchResult c.placed.result
    (λ _. comes_by c.args.unit.now cond_of c.args.pre.now c.args.state.now c.self.inside.hints ≡ Ok c.comes_by.new.hints)
    (Refused (placed c.args.at.now.place (comes_by c.args.unit.now cond_of c.args.pre.now c.args.state.now c.self.inside.hints))))
    c.cond.ensures
    (placed_leaves c.args.at.now.place _ _ c.comes_by.result c.placed.result c.placed.ensures c.comes_by.ensures.shown))
