use Rattle.std.proofs.Common.{◌+◌, ◌≤◌, ℕ, ap, length, subst}
use Rattle.std.proofs.lemmas.Result.{err_from_is_err_and}
use Rattle.cert_check.specs.Certified.{MakesLoops, MakesStanding}
use Rattle.cert_check.specs.Walks.{Over, scope_of}
use Rattle.cert_check.specs.declared.limits.TheConstants.{MOST_LOOPS}
use Rattle.cert_check.proofs.Standing.{call_stands, call_stays}
use Rattle.cert_check.proofs.UnitSteps.{called_made, called_making, making_ends, making_refused, making_taken, making_walks, told_of}
use Rattle.cert_check.proofs.checker.Checker.make_call.Goals as goal

-- the walk
pub target_from-requires-clause-sound : goal.target_from-requires-clause-sound
target_from-requires-clause-sound g c =
    making_walks (g.M.Loops.made c.args.maker.now) c.args.self.now.style (g.M.Loops.style c.args.maker.now) c.args.self.now.cert c.scope-scope.result
    c.scope-scope.ensures.scope c.scope-scope.ensures.sound c.requires.style c.makes.ensures.sound

-- it fails
pub returns-in_err-target_from-clause-makes : goal.returns-in_err-target_from-clause-makes
returns-in_err-target_from-clause-makes g c =
    let p = err_from_is_err_and c.from_residual.result c.from_residual.ensures.1 in
    let make = g.M.Loops.made c.args.maker.now in
    rw (p.1, p.2)
    (making_refused make c.args.self.now.style c.args.self.now.cert c.args.stay c.args.states.items c.args.target c.args.place
    (scope_of c.scope-scope.result make) c.making-course.result c.in_err-target_from.field-0.0
    (ap (λ (over : Over). scope_of over make) c.scope-scope.ensures.scope) c.making-course.ensures c.in_err-target_from.ensures.takes)

-- what it came to
pub returns-clause-makes : goal.returns-clause-makes
returns-clause-makes g c =
    let make = g.M.Loops.made c.args.maker.now in
    called_making make c.args.self.now.style c.args.self.now.cert c.args.stay c.args.states.items c.args.target c.args.place (scope_of c.scope-scope.result make)
    c.making-course.result c.target_from.new.course c.came_to.result (ap (λ (over : Over). scope_of over make) c.scope-scope.ensures.scope)
    c.making-course.ensures c.in_ok-target_from.ensures.takes c.came_to.ensures.came

pub returns-clause-made : goal.returns-clause-made
returns-clause-made g c =
    making_ends c.args.self.now.style c.scope-scope.result.style c.args.stay c.making-course.result c.target_from.new.course c.came_to.result
    (ap (λ (over : Over). over.style) c.scope-scope.ensures.scope) c.making-course.ensures c.in_ok-target_from.ensures.room c.came_to.ensures.counted
    c.came_to.ensures.came

pub returns-clause-stand : goal.returns-clause-stand
returns-clause-stand g c =
    let make = g.M.Loops.made c.args.maker.now in
    let style = c.args.self.now.style in
    let own = g.M.Loops.style c.args.maker.now in
    call_stands make style c.args.self.now.cert c.args.stay c.args.states.items c.args.target c.args.place c.came_to.result
    c.scope-scope.ensures.sound.sound c.scope-scope.ensures.sound.certified (told_of MakesLoops make style own c.requires.style c.makes.ensures.sound)
    (told_of MakesStanding make style own c.requires.style c.makes.ensures.stands) (called_made style c.args.states.items c.requires.room)
    (called_making make style c.args.self.now.cert c.args.stay c.args.states.items c.args.target c.args.place (scope_of c.scope-scope.result make)
    c.making-course.result c.target_from.new.course c.came_to.result (ap (λ (over : Over). scope_of over make) c.scope-scope.ensures.scope)
    c.making-course.ensures c.in_ok-target_from.ensures.takes c.came_to.ensures.came)

pub returns-clause-few : goal.returns-clause-few
returns-clause-few g c =
    let make = g.M.Loops.made c.args.maker.now in
    let style = c.args.self.now.style in
    let own = g.M.Loops.style c.args.maker.now in
    subst (λ (n : ℕ). n + length c.came_to.result.loops ≤ MOST_LOOPS)
    (call_stays make style c.args.self.now.cert c.args.stay c.args.states.items c.args.target c.args.place c.target_from.new.course
    c.scope-scope.ensures.sound.sound c.scope-scope.ensures.sound.certified (told_of MakesLoops make style own c.requires.style c.makes.ensures.sound)
    (called_made style c.args.states.items c.requires.room)
    (making_taken make style c.args.self.now.cert c.args.stay c.args.states.items c.args.target c.args.place (scope_of c.scope-scope.result make)
    c.making-course.result c.target_from.new.course (ap (λ (over : Over). scope_of over make) c.scope-scope.ensures.scope) c.making-course.ensures
    c.in_ok-target_from.ensures.takes))
    c.came_to.ensures.few
