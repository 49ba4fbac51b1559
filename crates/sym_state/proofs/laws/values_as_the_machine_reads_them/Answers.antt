-- The law of values that are read.
use Rattle.sym_state.proofs.Reading.{read_as}
use Rattle.sym_state.proofs.laws.values_as_the_machine_reads_them.Goals as goal

pub returns : goal.returns
returns c = λ style kind name place config e. read_as style kind name place config e
