-- The case is the definition's.
use Rattle.std.proofs.Common.{rules, ◌≡◌, ap, sym, ◌∙◌, length, map, option_map, refl}
use Rattle.std.proofs.lemmas.Result.{IfOk-weaker}
use Rattle.loop_templates.specs.Cases.{bare_case, facts_for, piece_of, variables_of}
use Rattle.loop_templates.proofs.Made.{bare_is}
use Rattle.loop_templates.proofs.cases.short_case.Goals as goal

pub returns : goal.returns
returns c =
    let common = map (λ state. state.now) c.args.common.now in
    let further = option_map (λ state. state.now) c.args.further in
    let n = length c.args.bones.now in
    let many : c.len.result ≡ length c.in_ok-names.names.items = search rules in
    IfOk-weaker c.piece_of.result (λ piece. piece ≡ piece_of n c.len.result c.as_slice-3.result.now c.in_ok-facts.facts.items)
    (λ piece. piece ≡ bare_case c.args.frame.now c.args.bones.now common further)
    (λ piece is. bare_is c.args.frame.now c.args.bones.now common further n c.len.result c.as_slice-3.result.now c.in_ok-facts.facts.items piece refl
    (many ∙ ap length (c.in_ok-names.ensures ∙ ap variables_of c.frame.view_is)) (c.as_slice-3.ensures.value ∙ c.in_ok-places.ensures)
    (c.in_ok-facts.ensures
    ∙ ap (λ places. facts_for c.args.frame.now c.args.bones.now places common further) (c.as_slice-2.ensures.value ∙ sym c.as_slice-3.ensures.value)) is)
    c.piece_of.ensures
