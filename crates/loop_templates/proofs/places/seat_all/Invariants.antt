-- The places of the names so far, behind which those that are left get theirs.
use Rattle.std.proofs.Common.{◌≡◌, ◌+◌, ◌≤◌, drop}
use Rattle.loop_templates.specs.Cases.{seated}
use Rattle.loop_templates.proofs.places.seat_all.Given as goal

abbrev pub invariant-loop-name : goal.invariant-loop-name
invariant-loop-name l = record {
  seated : seated l.writes l.taken l.state l.seats (drop l.name-index l.names) ≡ seated l.writes l.taken l.state l.initial.seats l.names;
  next : l.seats.next ≤ l.initial.seats.next + l.name-index;
}
