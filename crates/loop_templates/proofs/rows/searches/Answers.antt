-- A search more is there.
use Rattle.std.proofs.Common.{◌≡◌, ◌<◌, length, ap, sym, subst, arith}
use Rattle.std.specs.List.{All}
use Rattle.std.proofs.lemmas.List.Elements.{All-push}
use Rattle.sym_state.specs.WellMade.{HasBounds}
use Rattle.straight_proofs.specs.Asked.{Asked}
use Rattle.loop_templates.proofs.OneByOne.{one_of_all}
use Rattle.loop_templates.proofs.Sought.{images_more}
use Rattle.loop_templates.proofs.rows.searches.Goals as goal

pub new-requires : goal.new-requires
new-requires c =
    let more : c.loop-state.state-index < length c.args.states.now = omega arith in
    one_of_all HasBounds (λ state. state.now) c.args.states.now c.loop-state.state-index c.state-item.result more c.state-item.is c.requires

pub loop-state-preserved : goal.loop-state-preserved
loop-state-preserved c =
    let more : c.loop-state.state-index < length c.args.states.now = omega arith in
    let old = c.loop-state.all.items in
    let one = c.in_ok-new.field-0 in
    let Under = λ (search : Asked). search.cond ≡ c.args.cond.now in
    record {
      states = images_more (λ search. search.state) (λ state. state.now) old c.push.new.self.items c.args.states.now c.loop-state.state-index one
          c.state-item.result more c.state-item.is c.in_ok-push.ensures.items (ap (λ search. search.state) c.in_ok-new.ensures) c.loop-state.invariant.states;
      under = subst (All Under) (sym c.in_ok-push.ensures.items) (All-push Under old one c.loop-state.invariant.under (ap (λ search. search.cond) c.in_ok-new.ensures));
    }
