-- A row more is looked at.
use Rattle.std.proofs.Common.{rules, ℕ, ◌<◌, Bool, ◌&&◌, false, length, is_some, ap, ◌∙◌, arith}
use Rattle.lin_facts.specs.declared.row.Row.{Row}
use Rattle.sym_state.specs.Matches.{matched_by}
use Rattle.sym_state.specs.Renaming.{row_renamed}
use Rattle.straight_proofs.specs.Asked.{Asked}
use Rattle.straight_proofs.specs.Straight.{straight_proof}
use Rattle.loop_templates.specs.Candidates.{is_proved}
use Rattle.loop_templates.proofs.Marked.{all_new, next_mark, next_marked}
use Rattle.loop_templates.proofs.lowering.mark_proved.Goals as goal

pub loop-k-preserved : goal.loop-k-preserved
loop-k-preserved c =
    let rows = c.args.rows.now in
    let k = c.loop-k.k in
    let row = c.index-rows-k.result in
    let more : k < length rows = c.loop-k-test.true in
    let name = matched_by c.in_ok-matching.matching in
    let searched = λ (by : ℕ → ℕ) (s : Asked). is_some (straight_proof s.cond s.state (row_renamed by row)) in
    record {
      each = search rules;
      stays = search rules;
      marked = λ before is.
          (let after = λ (row : Row). before row && is_proved c.args.cond.now c.args.case.now row c.args.state.now in
          let old = c.loop-k.invariant.marked before is in
          next_marked after before rows c.loop-k.marks k row c.in_ok-marks.field-0 more c.index-rows-k.is
          (c.in_ok-marks.ensures.proved
          ∙ ap (λ (b : Bool). b && searched name c.loop-k.search) (next_mark after before rows c.loop-k.marks k row false more c.index-rows-k.is old)
          ∙ ap (λ (s : Asked). before row && searched name s) (c.loop-k.invariant.stays ∙ c.in_ok-search.ensures)
          ∙ ap (λ (by : ℕ → ℕ). before row && searched by (record { state = c.args.state.now; cond = c.args.cond.now })) c.in_ok-matching.ensures.matched)
          old);
    }

pub returns : goal.returns
returns c = λ before is.
    c.loop-k.invariant.marked before is
    ∙ all_new (λ (row : Row). before row && is_proved c.args.cond.now c.args.case.now row c.args.state.now) before c.args.rows.now c.loop-k.k (omega arith)
