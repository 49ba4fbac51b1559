-- Each of the hints is short.
use Rattle.loop_templates.proofs.Shortened.{entailing_short, one_short}
use Rattle.loop_templates.proofs.laws.entailing_hints_are_short.Goals as goal

pub returns-clause-one : goal.returns-clause-one
returns-clause-one c = entailing_short

pub returns-clause-among : goal.returns-clause-among
returns-clause-among c = one_short
