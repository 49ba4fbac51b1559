-- The law of the records that are found, by that of hints that are found.
use Rattle.command_flow.proofs.FoundRecords.{records_check}
use Rattle.command_flow.proofs.laws.found_records_are_accepted.Goals as goal

pub returns : goal.returns
returns c = λ finding style cert parts no_summary no_loop found.
    records_check (λ finding style cert parts states target place after rest e.
    c.found_hints_are_read.ensures finding style cert parts states target place after rest e) finding style cert parts no_summary no_loop found
