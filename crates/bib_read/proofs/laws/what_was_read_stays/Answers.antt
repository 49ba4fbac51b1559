use Rattle.bib_read.proofs.Growing.{apart_database, grown_database}
use Rattle.bib_read.proofs.laws.what_was_read_stays.Goals as goal

pub returns : goal.returns
returns c = record { grown = grown_database; apart = apart_database }
