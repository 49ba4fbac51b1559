-- Those that are marked are kept.
use Rattle.std.proofs.Common.{rules, ap, ◌∙◌}
use Rattle.std.specs.List.{filter}
use Rattle.std.proofs.lemmas.Fn.{filter_same}
use Rattle.name_table.specs.declared.names.NameId.{NameId}
use Rattle.loop_templates.specs.Reaching.{is_marked}
use Rattle.loop_templates.proofs.names.occurring_of.Goals as goal

pub returns : goal.returns
returns g c passes pure =
    let marked = λ (name : NameId). is_marked c.args.marks.now name.0 in
    filter_same _ marked _ (λ x b f h. search rules) _ _ c.retain.ensures.filtered ∙ ap (filter marked) (c.in_ok-names.ensures passes pure)
