-- Von stands between the first and the last low token.
use Rattle.std.proofs.Common.{ap, sym, ◌∙◌}
use Rattle.name_split.specs.declared.survey.Survey.{Survey}
use Rattle.name_split.proofs.Parting.{plain_von}
use Rattle.name_split.proofs.parts.plain_parts.Goals as goal

pub returns-in-Some-Some : goal.returns-in-Some-Some
returns-in-Some-Some c =
    plain_von c.args.tokens c.in-Some-Some.low c.in-Some-Some.von
    (sym (ap (λ (s : Survey). s.low) c.surveyed-survey.ensures) ∙ c.in-Some-Some.is-0)
    (sym (ap (λ (s : Survey). s.von) c.surveyed-survey.ensures) ∙ c.in-Some-Some.is-1)
