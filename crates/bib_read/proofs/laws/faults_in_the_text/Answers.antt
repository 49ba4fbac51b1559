use Rattle.bib_read.proofs.Standing.{fault_stands}
use Rattle.bib_read.proofs.laws.faults_in_the_text.Goals as goal

pub returns : goal.returns
returns c = λ before fault e. fault_stands c.args.source.now before fault e
