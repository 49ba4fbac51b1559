use Rattle.bib_read.proofs.ItemsSpelled.{of_reads, reads_of}
use Rattle.bib_read.proofs.laws.read_as_the_grammar.Goals as goal

pub returns : goal.returns
returns c = λ before database. (reads_of c.args.source.now before database, of_reads c.args.source.now before database)
