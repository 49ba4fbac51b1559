-- Those that stay are kept.
use Rattle.std.proofs.Common.{rules, ap, ◌∙◌}
use Rattle.std.specs.List.{filter}
use Rattle.std.proofs.lemmas.Fn.{filter_same}
use Rattle.loop_templates.specs.Reaching.{stays}
use Rattle.loop_templates.proofs.terms.strings_of.Goals as goal

pub returns : goal.returns
returns c =
    let stay = stays c.args.style.now c.args.found.now.quoted c.args.at_entry in
    filter_same _ stay _ (λ x b f h. search rules) _ _ c.retain.ensures.filtered
    ∙ ap (filter stay) c.in_ok-names.ensures
