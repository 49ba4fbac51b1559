use Rattle.aux_read.proofs.Cited.{aux_keys}
use Rattle.aux_read.proofs.Named.{aux_named}
use Rattle.aux_read.proofs.read.read.Goals as goal

pub returns-clause-keys : goal.returns-clause-keys
returns-clause-keys c = aux_keys c.args.source.now _ c.in_ok-aux.ensures.ok

pub returns-clause-names : goal.returns-clause-names
returns-clause-names c = aux_named c.args.source.now _ c.in_ok-aux.ensures.ok
