-- The facts are those that were added one after the other.
use Rattle.std.proofs.Common.{◌≡◌, ◌++◌, ap, ◌∙◌, subst, List, map, option_map, IfOk}
use Rattle.sym_state.specs.declared.symbol.Fact.{Fact}
use Rattle.loop_templates.specs.Cases.{Frame, facts_for, skeleton_facts}
use Rattle.loop_templates.proofs.Recorded.{facts_are}
use Rattle.loop_templates.proofs.cases.facts_for.Goals as goal

pub returns : goal.returns
returns c =
    let common = map (λ state. state.now) c.args.common.now in
    let further = option_map (λ state. state.now) c.args.further in
    let frame : Frame = record {
      style = c.frame.inside.style.now;
      admits = c.frame.inside.admits.now;
      whole = c.frame.inside.whole;
      at_entry = c.frame.inside.at_entry;
      has_pos = c.frame.inside.has_pos;
      bound = c.frame.inside.bound;
      writes = c.frame.inside.writes.now;
      sums = c.frame.inside.sums.now;
      entering = c.frame.inside.entering.now;
    } in
    subst (λ (frame : Frame). IfOk c.kept_facts.result (λ facts. facts.items ≡ facts_for frame c.args.bones.now c.args.places.now common further)) c.frame.view_is
    (subst (λ (them : List Fact). IfOk c.kept_facts.result (λ facts. facts.items ≡ them))
    (facts_are frame c.args.bones.now c.args.places.now common further c.new-given.result.items c.as_slice.result.now c.push_skeleton.new.all.items
    c.push_further.new.all.items c.push_common.new.all.items c.new-given.ensures.items (c.as_slice.ensures.value ∙ c.in_ok-add_own_facts.ensures)
    (c.in_ok-push_skeleton.ensures ∙ ap (λ (front : List Fact). front ++ skeleton_facts 0 c.args.bones.now) c.new-facts.ensures.items) c.in_ok-push_further.ensures c.in_ok-push_common.ensures)
    c.kept_facts.ensures)
