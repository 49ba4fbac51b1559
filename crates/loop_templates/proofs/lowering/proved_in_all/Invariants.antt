-- A row has a mark where it has a proof in each state so far.
use Rattle.std.proofs.Common.{◌≡◌, map, take}
use Rattle.std.specs.List.{list_all}
use Rattle.loop_templates.specs.Candidates.{is_proved}
use Rattle.loop_templates.proofs.lowering.proved_in_all.Given as goal

abbrev pub invariant-loop-state : goal.invariant-loop-state
invariant-loop-state l = l.proved.items
    ≡ map (λ row. list_all (is_proved l.cond l.case row) (map (λ state. state.now) (take l.state-index l.states))) l.rows
