use Rattle.aux_read.proofs.FaultsStand.{fault_stands}
use Rattle.aux_read.proofs.laws.faults_in_the_text.Goals as goal

pub returns : goal.returns
returns c = λ fault e. fault_stands c.args.source.now fault e
