-- A row is left where the moved one has a proof in each of the states, which stand behind references.
use Rattle.std.proofs.Common.{◌≡◌, List, IfOk, ap, length, map, subst, sym, ◌∙◌}
use Rattle.std.specs.List.{All, filter, list_all}
use Rattle.std.proofs.lemmas.List.{length-map}
use Rattle.std.proofs.lemmas.Simd.{map-map}
use Rattle.lin_facts.specs.declared.row.Row.{Row}
use Rattle.sym_state.specs.Positions.{AtNext, row_moved}
use Rattle.sym_state.specs.State.{State}
use Rattle.loop_templates.specs.Candidates.{CanMatch, is_proved}
use Rattle.loop_templates.specs.Visits.{is_left}
use Rattle.loop_templates.proofs.visits.rows_left.Goals as goal

pub proved_in_all-requires-clause-states : goal.proved_in_all-requires-clause-states
proved_in_all-requires-clause-states c =
    subst (All (CanMatch (length c.args.case.now.stack))) (sym (ap (map (λ state. state.now)) c.as_slice.ensures.value ∙ c.in_ok-those.ensures)) c.requires.states

pub marked_rows-requires : goal.marked_rows-requires
marked_rows-requires c =
    let proved = λ (row : Row). list_all (is_proved c.args.cond.now c.args.case.now row) (map (λ state. state.now) c.as_slice.result.now) in
    ap length (c.as_slice-3.ensures.value ∙ c.in_ok-shown.ensures) ∙ length-map c.args.moved.now proved
    ∙ ap length c.requires.moved ∙ length-map c.args.case.now.rows (row_moved AtNext) ∙ sym (ap length c.as_slice-2.ensures)

pub returns : goal.returns
returns c =
    let proved = λ (states : List State) (row : Row). list_all (is_proved c.args.cond.now c.args.case.now row) states in
    let left = λ (row : Row). list_all (is_left c.args.cond.now c.args.case.now row) c.args.states.now in
    let shown = c.as_slice-3.ensures.value ∙ c.in_ok-shown.ensures
    ∙ ap (λ states. map (proved states) c.args.moved.now) (ap (map (λ state. state.now)) c.as_slice.ensures.value ∙ c.in_ok-those.ensures)
    ∙ ap (map (proved c.args.states.now)) c.requires.moved ∙ map-map (proved c.args.states.now) (row_moved AtNext) c.args.case.now.rows
    ∙ ap (map left) (sym c.as_slice-2.ensures) in
    subst (λ rows. IfOk c.marked_rows.result (λ kept. kept.items ≡ filter left rows)) c.as_slice-2.ensures (c.marked_rows.ensures left shown)
