-- The frame is that of the loop, and a sequence may be walked over it.
use Rattle.std.proofs.Common.{◌≡◌, List, ap, subst, sym, ◌∙◌}
use Rattle.std.specs.List.{All}
use Rattle.lin_facts.specs.declared.row.Part.{Part}
use Rattle.name_table.specs.Sound.{IsSound}
use Rattle.name_table.specs.declared.style.Style.{Style}
use Rattle.sym_state.specs.WellMade.{WellMade}
use Rattle.loop_templates.specs.Bound.{all_bound}
use Rattle.loop_templates.specs.Cases.{IsSumOver}
use Rattle.loop_templates.specs.Sums.{IsSmallSum}
use Rattle.loop_templates.proofs.Over.{sums_over_names}
use Rattle.infer_loops.specs.Invariants.{frame_with}
use Rattle.infer_loops.proofs.FoundFrames.{found_there, frame_found}
use Rattle.infer_loops.proofs.sequence.invariant.Goals as goal

pub found_in-requires-clause-frame : goal.found_in-requires-clause-frame
found_in-requires-clause-frame c =
    let style = c.style-style.result.now in
    let entry = c.turning-one.result.entry in
    record {
      sound = subst IsSound (sym c.style-style.ensures.style) c.style-style.ensures.sound;
      entering = subst (λ (s : Style). All (WellMade s) c.args.entering.now) (sym c.style-style.ensures.style) c.requires.made;
      some = c.requires.some;
      sums = subst (λ (sums : List (List Part)). All IsSmallSum sums) (sym c.as_slice-2.ensures.value) c.in_ok-sums.ensures.small;
      over = subst (λ (sums : List (List Part)). All (IsSumOver style (all_bound entry) entry) sums) (sym (c.as_slice-2.ensures.value ∙ c.in_ok-sums.ensures.sums))
          (sums_over_names style _ entry entry);
      there = λ at_entry. at_entry;
    }

pub returns : goal.returns
returns c =
    let one = c.turning-one.result in
    let entering = c.args.entering.now in
    let frame = frame_with c.style-style.result.now c.cond-admits.result.now one c.as_slice.result.now c.as_slice-2.result.now entering in
    found_there c.args.checker.now.style c.args.checker.now.cert c.args.test c.args.body entering frame one c.found_in.result c.turning-one.ensures
    (frame_found c.args.checker.now.style c.style-style.result.now c.args.checker.now.cert.cond c.cond-admits.result.now one _ c.as_slice.result.now
    c.as_slice-2.result.now entering c.style-style.ensures.style c.cond-admits.ensures.cond c.in_ok-found.ensures
    (c.as_slice.ensures.value ∙ c.in_ok-writes.ensures) (c.as_slice-2.ensures.value ∙ c.in_ok-sums.ensures.sums))
    c.found_in.ensures
