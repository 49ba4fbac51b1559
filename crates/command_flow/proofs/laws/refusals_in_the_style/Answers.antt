use Rattle.command_flow.proofs.RefusalPlaces.{rule_refused}
use Rattle.command_flow.proofs.laws.refusals_in_the_style.Goals as goal

pub returns : goal.returns
returns c = λ style cert refusal is.
    rule_refused style cert refusal c.refusals_of_units_in_the_style.ensures.summaries c.refusals_of_units_in_the_style.ensures.loops
    c.refusals_of_units_in_the_style.ensures.calls is
