use Rattle.aux_read.proofs.BothWays.{of_reads, reads_of}
use Rattle.aux_read.proofs.laws.read_as_the_grammar.Goals as goal

pub returns : goal.returns
returns c = λ aux. (reads_of c.args.source.now aux, of_reads c.args.source.now aux)
