-- The cases of what follows stand in certificates.
use Rattle.std.proofs.Common.{◌≡◌, ap, ◌∙◌, map}
use Rattle.std.proofs.lemmas.Result.{IfOk-weaker}
use Rattle.loop_templates.specs.Candidates.{HasNextCases, next_by}
use Rattle.loop_templates.specs.Skeletons.{new_skeletons}
use Rattle.loop_templates.proofs.Made.{new_of_style}
use Rattle.loop_templates.proofs.Standing.{next_has_cases}
use Rattle.loop_templates.proofs.candidates.next_after.Goals as goal

pub next_by-requires-clause-bones : goal.next_by-requires-clause-bones
next_by-requires-clause-bones c =
    new_of_style c.args.frame.now.style (map (λ one. one.bones) c.as_slice.result.now) c.args.turned.now c.in_ok-new.new.items c.requires.turned c.in_ok-new.ensures

pub returns-clause-stand : goal.returns-clause-stand
returns-clause-stand c =
    let frame = c.args.frame.now in
    let candidate = c.args.candidate.now in
    let turned = c.args.turned.now in
    IfOk-weaker c.next_by.result (λ after. after ≡ next_by frame candidate turned c.in_ok-new.new.items) (HasNextCases frame)
    (λ after is. next_has_cases frame candidate turned after
    (is ∙ ap (next_by frame candidate turned)
    (c.in_ok-new.ensures ∙ ap (λ added. new_skeletons (map (λ one. one.bones) added) turned) c.as_slice.ensures))
    c.requires.frame c.requires.turned c.requires.stand)
    c.next_by.ensures
