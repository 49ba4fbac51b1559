-- The loop is there, or it is made.
use Rattle.std.proofs.Common.{◌≡◌, ◌<◌, List, length, sym, subst, ap, ◌∙◌, Option, None}
use Rattle.cert_format.specs.declared.cert.Loop.{Loop}
use Rattle.cert_check.specs.Courses.{first_number}
use Rattle.cert_check.specs.Here.{here}
use Rattle.cert_check.specs.Walks.{Making, Numbered, entering_with, loop_made, made_by, numbered, numbered_at}
use Rattle.cert_check.proofs.WhileSteps.{goes_same, known_at}
use Rattle.cert_check.proofs.whiles.loop_for.Goals as goal

pub returns-in-Some-clause-takes : goal.returns-in-Some-clause-takes
returns-in-Some-clause-takes g c =
    let first = first_number c.args.course.now in
    let k = c.in-Some.k in
    let one = c.args.one.now in
    known_at c.args.at.now.place (numbered one first c.args.made.now.items) first k _ c.args.made.now.items c.args.course.now
    (subst (λ (l : List Loop). numbered one first l ≡ numbered_at first k l) c.as_slice.ensures.value (c.in-Some.ensures.found first))
    (subst (λ (l : List Loop). k < length l) c.as_slice.ensures.value c.in-Some.ensures.there)

pub returns-in_ok-found-in-None-clause-takes : goal.returns-in_ok-found-in-None-clause-takes
returns-in_ok-found-in-None-clause-takes g c =
    let first = first_number c.args.course.now in
    let one = c.args.one.now in
    let making : Making = record { made = c.args.made.now.items; course = c.args.course.now } in
    let place = c.args.at.now.place in
    let new = made_by (g.M.Loops.made c.args.at.now.maker.now) one.test one.body (entering_with (here g.M.Loops.made c.args.at.now) one c.args.states.now) in
    let none : numbered one first c.args.made.now.items ≡ None =
    subst (λ (l : List Loop). numbered one first l ≡ None) c.as_slice.ensures.value (c.in-None.ensures.found first) in
    goes_same _ (loop_made place None c.in_ok-found-in-None.found making) _ c.loop_made.result
    (ap (λ (o : Option Numbered). loop_made place o new making) none ∙ ap (λ (o : Option Loop). loop_made place None o making) (sym c.in_ok-found-in-None.ensures.found))
    c.loop_made.ensures.takes
