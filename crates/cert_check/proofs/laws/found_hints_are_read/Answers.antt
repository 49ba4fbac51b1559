-- The law of hints that are found.
use Rattle.cert_check.proofs.FoundWalks.{call_read}
use Rattle.cert_check.proofs.laws.found_hints_are_read.Goals as goal

pub returns : goal.returns
returns c = call_read
