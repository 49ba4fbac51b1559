-- The law of the places of refusals.
use Rattle.cert_check.proofs.RefusalPlaces.{call_refused, loop_refused, summary_refused}
use Rattle.cert_check.proofs.laws.refusals_of_units_in_the_style.Goals as goal

pub returns : goal.returns
returns c = record { summaries = summary_refused; loops = loop_refused; calls = call_refused }
