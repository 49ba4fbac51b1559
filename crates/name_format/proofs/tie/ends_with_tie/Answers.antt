-- The byte at the last place is the last.
use Rattle.std.proofs.Common.{sym}
use Rattle.name_format.proofs.Ending.{ends_last}
use Rattle.name_format.proofs.tie.ends_with_tie.Goals as goal

pub returns-then-end-gt0 : goal.returns-then-end-gt0
returns-then-end-gt0 c = sym (ends_last 126 c.args.text.now c.if-end-gt0.true)
