-- What stops the reader is the fault of the text.
use Rattle.bib_read.specs.Progressing.{progress_of}
use Rattle.bib_read.proofs.Standing.{stopped}
use Rattle.bib_read.proofs.read.read_after.Goals as goal

pub returns-in-Err-clause-fault : goal.returns-in-Err-clause-fault
returns-in-Err-clause-fault c =
    stopped c.args.source.now c.in-Ok.reader.rest.now c.args.before (progress_of c.in-Ok.reader) c.in-Err.stop c.fault_of.result
    c.in-Ok.ensures.0 c.in-Ok.ensures.1 c.in-Err.ensures c.fault_of.ensures
