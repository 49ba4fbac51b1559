-- What is left is alike the remainder less the row, and has room for one row less.
use Rattle.std.proofs.Common.{rules}
use Rattle.straight_proofs.proofs.Canonical.{less_is_alike}
use Rattle.straight_proofs.proofs.Rooms.{room_of}
use Rattle.straight_proofs.proofs.remainders.minus.Goals as goal

pub returns-clause-alike : goal.returns-clause-alike
returns-clause-alike c = less_is_alike c.args.remainder.now c.args.row.now _ (search rules)

pub returns-clause-room : goal.returns-clause-room
returns-clause-room c = λ more h. room_of more c.args.remainder.now c.args.row.now _ (search rules) h c.requires.row
