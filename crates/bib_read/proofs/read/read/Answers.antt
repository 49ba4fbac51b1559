use Rattle.bib_read.proofs.Growing.{keyed_database}
use Rattle.bib_read.proofs.read.read.Goals as goal

pub returns-clause-keys : goal.returns-clause-keys
returns-clause-keys c = keyed_database c.args.source.now c.args.before _ c.in_ok-database.ensures.ok
