-- The two functions are known, or one isn't.
use Rattle.std.proofs.Common.{rules, take}
use Rattle.cert_check.specs.Here.{here}
use Rattle.cert_check.specs.Walks.{made_by}
use Rattle.cert_check.proofs.WhileSteps.{call_made, call_rises, known_while, this_enters}
use Rattle.cert_check.proofs.whiles.while_taken.Goals as goal

pub while_made-requires-clause-enters : goal.while_made-requires-clause-enters
while_made-requires-clause-enters g c =
    this_enters (here g.M.Loops.made c.args.at.now) c.args.at.now.place c.args.states.now c.args.state.now c.in_ok-lower.rest c.in_ok-lower.lower c.in_ok-lower.upper
    c.in-Some-Some.test c.in-Some-Some.body c.in_ok-lower.ensures.two (search rules) (search rules) c.requires.among

pub returns-in-Some-Some : goal.returns-in-Some-Some
returns-in-Some-Some g c =
    let over = c.args.at.now.scope.now in
    let made = g.M.Loops.made c.args.at.now.maker.now in
    let style = g.M.Loops.style c.args.at.now.maker.now in
    let takes = known_while (made_by made) (here g.M.Loops.made c.args.at.now) c.args.at.now.place c.args.states.now (take c.args.earlier c.args.states.now)
    c.args.state.now c.in_ok-lower.rest c.in_ok-lower.lower c.in_ok-lower.upper c.in-Some-Some.test c.in-Some-Some.body
    (record { made = c.args.made.now.items; course = c.args.course.now })
    (record { made = c.while_made.new.made.items; course = c.while_made.new.course }) c.while_made.result c.in_ok-lower.ensures.two (search rules) (search rules)
    c.while_made.ensures.takes in
    record {
      takes = takes;
      made = call_made over style made c.args.at.now.place c.args.states.now (take c.args.earlier c.args.states.now) c.args.state.now _ _ c.while_made.result
          c.requires.sound c.requires.states c.requires.among c.requires.room.made c.requires.made takes;
      rises = call_rises over style made c.args.at.now.place c.args.states.now (take c.args.earlier c.args.states.now) c.args.state.now _ _ c.while_made.result
          c.requires.sound c.requires.states c.requires.among c.requires.room.made c.requires.made takes;
    }
