-- The form of a row is alike it, and has room for eight rows.
use Rattle.std.proofs.Common.{rules}
use Rattle.straight_proofs.proofs.Canonical.{canonical_is_alike}
use Rattle.straight_proofs.proofs.Rooms.{room_at_first}
use Rattle.straight_proofs.proofs.remainders.canonical.Goals as goal

pub returns-clause-alike : goal.returns-clause-alike
returns-clause-alike c = canonical_is_alike c.args.row.now _ (search rules)

pub returns-clause-room : goal.returns-clause-room
returns-clause-room c = room_at_first c.args.row.now _ (search rules) c.requires
