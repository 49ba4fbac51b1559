use Rattle.std.proofs.Common.{List, sym, subst}
use Rattle.std.specs.List.{All}
use Rattle.sym_state.specs.State.{State}
use Rattle.sym_state.specs.WellMade.{HasBounds}
use Rattle.cert_check.specs.Here.{here}
use Rattle.cert_check.proofs.TurnSteps.{left_bounds, turned_rises}
use Rattle.cert_check.proofs.turns.turned.Goals as goal

-- the states at the body's end
pub all_entail-requires-clause-states : goal.all_entail-requires-clause-states
all_entail-requires-clause-states g c =
    subst (λ (states : List State). All HasBounds states) (sym c.as_slice-then-above.ensures.value)
    (left_bounds (here g.M.Loops.made c.args.at.now) c.args.at.now.place c.args.one.now.body c.args.state c.args.course.now c.target_entered.new.course c.take_given-states.new.self
    c.take_given-states.result.items c.requires.sound.sound c.requires.sound.certified c.requires.sound.makes c.requires.room c.requires.none c.in_ok-target_entered.ensures.takes
    c.take_given-states.ensures.given c.take_given-states.ensures.left)

pub returns-in_ok-target_entered-clause-rises : goal.returns-in_ok-target_entered-clause-rises
returns-in_ok-target_entered-clause-rises g c =
    turned_rises (here g.M.Loops.made c.args.at.now) c.args.at.now.place c.args.one.now.body c.args.state c.args.course.now c.target_entered.new.course c.take_given-states.new.self
    c.all_entail.new.self c.all_entail.result c.requires.sound.sound c.requires.sound.certified c.requires.sound.makes c.requires.room c.in_ok-target_entered.ensures.takes
    c.take_given-states.ensures.left c.all_entail.ensures.rest
