-- The exits are the definition's.
use Rattle.std.proofs.Common.{ap, ◌∙◌, List, [], ◌++◌, map}
use Rattle.loop_templates.specs.Candidates.{added_for}
use Rattle.loop_templates.specs.declared.candidates.Added.{Added}
use Rattle.loop_templates.proofs.Made.{new_of_style}
use Rattle.loop_templates.proofs.Standing.{exits_are_cases, exits_made}
use Rattle.loop_templates.proofs.candidates.exits_of.Goals as goal

pub push_added-requires-clause-bones : goal.push_added-requires-clause-bones
push_added-requires-clause-bones c = new_of_style c.args.frame.now.style [] c.args.left.now c.in_ok-new.new.items c.requires.left c.in_ok-new.ensures

pub returns-clause-made : goal.returns-clause-made
returns-clause-made c =
    let more = map (added_for c.args.frame.now c.args.left.now) c.in_ok-new.new.items in
    exits_made c.args.frame.now c.args.left.now c.push_added.new.added.items
    (c.in_ok-push_added.ensures ∙ ap (λ (front : List Added). front ++ more) c.new-exits.ensures.items
    ∙ ap (map (added_for c.args.frame.now c.args.left.now)) c.in_ok-new.ensures) c.requires.frame

pub returns-clause-stand : goal.returns-clause-stand
returns-clause-stand c =
    let more = map (added_for c.args.frame.now c.args.left.now) c.in_ok-new.new.items in
    exits_are_cases c.args.frame.now c.args.left.now c.push_added.new.added.items
    (c.in_ok-push_added.ensures ∙ ap (λ (front : List Added). front ++ more) c.new-exits.ensures.items
    ∙ ap (map (added_for c.args.frame.now c.args.left.now)) c.in_ok-new.ensures) c.requires.frame c.requires.left
