-- There is a search for each state so far.
use Rattle.std.proofs.Common.{◌≡◌, map, take}
use Rattle.std.specs.List.{All}
use Rattle.loop_templates.proofs.rows.searches.Given as goal

abbrev pub invariant-loop-state : goal.invariant-loop-state
invariant-loop-state l = record {
  states : map (λ search. search.state) l.all.items ≡ map (λ state. state.now) (take l.state-index l.states);
  under : All (λ search. search.cond ≡ l.cond) l.all.items;
}
